-- What a range test says of a number: it is finite where the ends are. (A cast or `to_bits` of a tested number cites it.) Assumes nothing.
use mathlib.Core.Path.{◌≡◌}
use mathlib.Core.Bool.{true, false, false≢true}
use lib.Ieee.{Float, nan, inf, fin, le, lt, eq}
use Rattle.float.specs.Def.{abs_of}
use Rattle.ranges.specs.Ranged.{within, between}

abbrev pub Finite : Float → Type 0
Finite nan = ⊥
Finite (inf s) = ⊥
Finite (fin s m e) = Unit {0}

pub within_finite : (limit x : Float) → Finite limit → within limit x ≡ true → Finite x
unfolding within abs_of le lt eq
within_finite nan x f h = absurd f
within_finite (inf s) x f h = absurd f
within_finite (fin s m e) nan f h = absurd (false≢true h)
within_finite (fin s m e) (inf t) f h = absurd (false≢true h)
within_finite (fin s m e) (fin t n d) f h = tt

pub between_finite : (low high x : Float) → Finite low → Finite high → between low high x ≡ true → Finite x
unfolding between le lt eq
between_finite nan high x f g h = absurd f
between_finite (inf s) high x f g h = absurd f
between_finite (fin s m e) nan x f g h = absurd g
between_finite (fin s m e) (inf t) x f g h = absurd g
between_finite (fin s m e) (fin t n d) nan f g h = absurd (false≢true h)
between_finite (fin s m e) (fin t n d) (inf true) f g h = absurd (false≢true h)
between_finite (fin s m e) (fin t n d) (inf false) f g h = absurd (false≢true h)
between_finite (fin s m e) (fin t n d) (fin u k c) f g h = tt
