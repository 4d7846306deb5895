use Rattle.std.proofs.Common.{◌≡◌, ℕ, ◌<◌, length, get_or}
use Rattle.draw_colours.specs.Table.{raised_shade}
use Rattle.draw_colours.proofs.fill_table.Given as goal

abbrev pub invariant-loop-n : goal.invariant-loop-n
invariant-loop-n l = (length l.table ≡ 32) × ((k : ℕ) → k < l.n → get_or l.table k 0 ≡ raised_shade l.mask l.palette k)
