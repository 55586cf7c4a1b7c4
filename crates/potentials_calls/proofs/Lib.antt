pub mod AllPairs
