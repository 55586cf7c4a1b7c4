-- No second answer fits a public call's contract. Assumes nothing.
use Rattle.std.specs.Prelude.{Result}
use Rattle.answer.specs.declared.Refusal.{Refusal}
use Rattle.std.specs.Prelude.{Bool}
use Prim.Native.Nat.{ℕ}
use mathlib.Core.Path.{◌≡◌, sym, ◌∙◌}
use mathlib.Core.List.{List}
use Rattle.answer.proofs.Only.{seen_only}
use Rattle.frame.specs.declared.Frame.{Frame}
use Rattle.skin.specs.Skin.{WithinSkinSays}

pub within_skin_only : (f : Frame) (skin : ℕ) (old new : List ℕ) (r s : Result Bool Refusal) → WithinSkinSays f skin old new r → WithinSkinSays f skin old new s → r ≡ s
within_skin_only f skin old new r s p q = seen_only r s (p ∙ sym q)
