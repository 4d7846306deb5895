-- A refusal by a record, and a run of one line that is not drawn.
use Prim.Native.Nat.{ℕ, ◌≤◌}
use mathlib.Core.Path.{◌≡◌, refl, sym, ap, ◌∙◌}
use mathlib.Core.Bool.{Bool, true, false, ◌&&◌}
use mathlib.Core.List.{List}
use native.Mathlib.Omega.{arith}
use lib.Dec.{eqb}
use lib.ListN.{length}
use borrow.Author.Tests.{eq-eqb, ne_eqb, lt-ltb}
use Rattle.std.specs.Prelude.{Option, Some, MatchOption}
use Rattle.std.specs.Array.{IsWholeChunk}
use Rattle.model.specs.declared.Ppu.{Ppu}
use Rattle.model.specs.declared.Access.{Access}
use Rattle.model.specs.declared.Refusal.{Refusal}
use Rattle.model.specs.declared.Refusal.TheVariants.{Address, Length, Unit, Drawing, Request, Writable, Which, Character}
use Rattle.model.specs.Unit.{Cells, access_cells, line_memory, State, state, is_well_formed, is_drawing}
use Rattle.model.specs.Colours.{numbers_of}
use Rattle.model.specs.Line.{one_line}
use Rattle.model.specs.Calls.{made, refusal_number, refusal, refused_access, load_call, packed, exported, export_of, saved_bytes, on_record, exported_call, own, outcome, done, line_outcome, run_call, access_sizes, order, refusal_of, on_lent}
use Rattle.model.proofs.Accepted.{is_done, and_none}
use Rattle.model.proofs.Record.{loaded, load_is, unit_well}
use Rattle.model.proofs.Colours.{sized_bytes}
use Rattle.model.proofs.Tests.{cond_both}
use Rattle.lent.specs.declared.Lent.{Lent}
use Rattle.lent.specs.Cells.{cells_of}
use Rattle.runs.specs.After.{after_line}
use Rattle.runs.proofs.Cases.{line_is}

-- A REFUSAL is not 0, and leaves the record
pub number_not_0 : (r : Refusal) → eqb (refusal_number r) 0 ≡ false
number_not_0 Address = refl
number_not_0 Length = refl
number_not_0 Unit = refl
number_not_0 Drawing = refl
number_not_0 Request = refl
number_not_0 Writable = refl
number_not_0 Which = refl
number_not_0 Character = refl

pub bytes_stay : (n : ℕ) (u : Ppu) (l : List ℕ) → eqb n 0 ≡ false → saved_bytes (refused_access n u) l ≡ l
unfolding saved_bytes
bytes_stay n u l e = rw e (cond_both (λ (b : List ℕ). b ≡ l) (eqb (length l) 16) l l refl refl)

pub ruleset refused = (number_not_0, bytes_stay)

-- A RUN OF ONE LINE that is not drawn. The unit of a record is well formed
pub made_formed : (x : List ℕ) (u : Ppu) → load_call x ≡ made u → is_well_formed u ≡ true
made_formed x u e =
    let t = loaded x (ap (λ (y : Access). y.answer.number) e) in rw (ap (λ (y : Access). y.unit) (sym e ∙ load_is x t.0 t.1)) (unit_well x t.1)

-- lent memory of a wrong length
module _ (why : ℕ) (u : Ppu) (l r n o p b c : List ℕ) (le : why ≤ 2) (well : is_well_formed u ≡ true) where
  abbrev wrong : State
  wrong = state u (line_memory l r n o p b (numbers_of c))

  abbrev cells : Bool
  cells = access_sizes u.board (length l) (length r) (length n) (length o) (length p)

  short : cells && (eqb (length b) 256 && eqb (length c) 512) ≡ false → on_lent (run_call own why 1) wrong ≡ outcome (refusal 2) wrong
  unfolding on_lent refusal_of order
  short e = rw (lt-ltb why 3 (omega arith), well, sized_bytes c, e)

  pub cells_short : cells ≡ false → on_lent (run_call own why 1) wrong ≡ outcome (refusal 2) wrong
  cells_short e = short (rw e)

  pub line_short : (length b ≡ 256 → ⊥) → on_lent (run_call own why 1) wrong ≡ outcome (refusal 2) wrong
  line_short h = short (rw (ne_eqb (length b) 256 h) (and_none cells))

  pub colours_short : (length c ≡ 512 → ⊥) → on_lent (run_call own why 1) wrong ≡ outcome (refusal 2) wrong
  colours_short h = short (rw (ne_eqb (length c) 512 h, and_none (eqb (length b) 256)) (and_none cells))

-- lent memory of the right lengths
module _ (why : ℕ) (x l r n o p b c : List ℕ) (u : Ppu) (made_u : load_call x ≡ made u) (le : why ≤ 2) (lent : Option Lent) (m : Lent)
    (fits : MatchOption lent (access_sizes u.board (length l) (length r) (length n) (length o) (length p) ≡ false)
    (λ m. (access_sizes u.board (length l) (length r) (length n) (length o) (length p) ≡ true) × (cells_of m ≡ access_cells l r n o p)))
    (is : lent ≡ Some m) (b0 c0 : List ℕ) (line : IsWholeChunk b b0 256) (colours : IsWholeChunk c c0 512) where
  abbrev at : State
  at = state u (line_memory l r n o p b (numbers_of c))

  sized : (access_sizes u.board (length l) (length r) (length n) (length o) (length p) ≡ true) × (cells_of m ≡ access_cells l r n o p)
  sized = rw is at fits

  accepted : 0 ≡ refusal_of (run_call own why 1) at
  unfolding refusal_of order
  accepted = rw (lt-ltb why 3 (omega arith), made_formed x u made_u, sized.0, eq-eqb (length b) 256 line.long, sized_bytes c, eq-eqb (length c) 512 colours.long, and_none (is_drawing u))

  pub undrawn_done : (a : Access) (k : ℕ) (x' b' f' : List ℕ) → ((l r n o p b f : List ℕ) → a ≡ after_line why (state u (line_memory l r n o p b f)))
      → ((l r n o : List ℕ) → line_memory l r n o m.palette.now b' f' ≡ (one_line (state u (line_memory l r n o m.palette.now b0 (numbers_of c0)))).memory)
      → x' ≡ saved_bytes a x → k ≡ packed a.answer → exported k x' (line_memory l r n o p b' f') ≡ exported_call (run_call own why 1) x at.memory
  unfolding exported_call on_record
  undrawn_done a k x' b' f' e g bytes answer =
      let same = ap (λ (y : Cells). y.palette) sized.1 in
      let z : line_outcome a l r n o p b' f' ≡ done (run_call own why 1) at =
      line_is why at a l r n o p b' f' (e l r n o p b (numbers_of c)) (rw (same, line.same, colours.same) at (g l r n o)) in
      rw (answer, bytes, lt-ltb why 3 (omega arith), made_u) (ap (export_of x) (z ∙ is_done (run_call own why 1) at 0 accepted refl))

pub ruleset line_cases = (number_not_0, bytes_stay, made_formed, cells_short, line_short, colours_short)
