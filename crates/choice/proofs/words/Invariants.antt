use Prim.Native.Nat.{ℕ, ◌%◌, ◌<◌}
use mathlib.Core.Path.{◌≡◌}
use lib.ListN.{length, get_or}
use Rattle.model.specs.Sprites.{oam_at}
use Rattle.choice.proofs.words.Given as goal

abbrev pub invariant-loop-i : goal.invariant-loop-i
invariant-loop-i l = (length l.w ≡ 64) × ((k : ℕ) → k < l.i → get_or l.w k 0 % 256 ≡ oam_at l.oam k 0)
