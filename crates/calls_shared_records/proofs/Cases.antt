-- A run by the unit of a record: the plain one on buffers that were cleared.
use Prim.Native.Nat.{ℕ, ◌%◌, ◌≤◌}
use mathlib.Core.Path.{◌≡◌, refl, sym, ap}
use mathlib.Core.Bool.{Bool, true, false, cond}
use mathlib.Core.List.{List, [], ◌∷◌}
use lib.Dec.{eqb}
use lib.ListN.{length, replicate, length-replicate}
use Rattle.model.specs.declared.Ppu.{Ppu}
use Rattle.model.specs.Unit.{Memory, state, line_memory}
use Rattle.model.specs.Colours.{paired, numbers_of}
use Rattle.model.specs.Calls.{Call, request_ok, load_call, export_of, on_record, exported_call, own, run_call, on_lent}
use Rattle.model.proofs.Colours.{sized_bytes}
use Rattle.model_shared.specs.Shared.{unit_call}
pub use Rattle.model_shared.proofs.Laws.{unit_writable}
pub use Rattle.calls_records.proofs.Cases.{number_not_0, bytes_stay, made_formed}
use Rattle.calls_shared_unit.specs.Cleared.{clears}
use Rattle.calls_shared_unit.proofs.Cases.{run_zeroed, run_kept}

-- the plain call, where the record is taken
pub taken_plain : (c : Call) (x : List ℕ) (m : Memory) → request_ok c ≡ true → (load_call x).answer.number ≡ 0 → exported_call c x m ≡ export_of x (on_lent c (state (load_call x).unit m))
unfolding exported_call on_record
taken_plain c x m a e = rw (a, e) refl

-- zero bytes are zeros as numbers
zero_pairs : (l : List ℕ) → paired (replicate (length l) 0) ≡ replicate (length (paired l)) 0
unfolding paired
zero_pairs [] = refl
zero_pairs (a ∷ []) = refl
zero_pairs (a ∷ b ∷ l) = ap (λ (z : List ℕ). 0 ∷ z) (zero_pairs l)

zero_numbers : (l : List ℕ) → numbers_of (replicate (length l) 0) ≡ replicate (length (numbers_of l)) 0
unfolding numbers_of
zero_numbers l = rw (length-replicate {A = ℕ} (length l) 0, zero_pairs l) (go (eqb (length l % 2) 0))
  where
    go : (x : Bool) → cond x (replicate {A = ℕ} (length (paired l)) 0) (replicate (length l) 0) ≡ replicate (length (cond x (paired l) l)) 0
    go true = refl
    go false = refl

module _ (why most : ℕ) (u : Ppu) (l r n o p b c : List ℕ) (known : why ≤ 2) (w : u.board.writable ≡ false) where
  pub bytes_zeroed : clears u most (length l) (length r) (length n) (length o) (length p) (length b) (length c) ≡ true
      → unit_call (run_call own why most) (state u (line_memory l r n o p b (numbers_of c)))
      ≡ on_lent (run_call own why most) (state u (line_memory l r n o p (replicate (length b) 0) (numbers_of (replicate (length c) 0))))
  bytes_zeroed e = rw (zero_numbers c) (run_zeroed why most u l r n o p b (numbers_of c) (length c) known w (sym (sized_bytes c)) e)

  pub bytes_kept : clears u most (length l) (length r) (length n) (length o) (length p) (length b) (length c) ≡ false
      → unit_call (run_call own why most) (state u (line_memory l r n o p b (numbers_of c))) ≡ on_lent (run_call own why most) (state u (line_memory l r n o p b (numbers_of c)))
  bytes_kept = run_kept why most u l r n o p b (numbers_of c) (length c) known w (sym (sized_bytes c))

pub ruleset run_cases = (number_not_0, bytes_stay, made_formed, unit_writable, taken_plain, bytes_zeroed, bytes_kept)
