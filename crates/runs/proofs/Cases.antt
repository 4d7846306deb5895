-- The ways of each call.
use Prim.Native.Nat.{ℕ, ◌≤◌}
use mathlib.Core.Path.{◌≡◌, refl, sym, ap, ◌∙◌, transport}
use mathlib.Core.Bool.{Bool, true, false, ◌&&◌}
use mathlib.Core.List.{List}
use lib.Dec.{ltb, eqb}
use lib.ListN.{length}
use native.Mathlib.Omega.{arith}
use borrow.Author.Tests.{eqb-true, eq-eqb, ne_eqb, lt-ltb}
use Rattle.std.specs.Prelude.{Option, Some, is_some, MatchOption}
use Rattle.std.specs.Array.{IsWholeChunk}
use Rattle.model.specs.declared.Ppu.{Ppu}
use Rattle.model.specs.declared.Access.{Access}
use Rattle.model.specs.Colours.{numbers_of}
use Rattle.model.specs.Unit.{Cells, Memory, State, state, access_cells, line_memory, nametable_length, bit, is_rendering, is_well_formed, is_drawing}
use Rattle.model.specs.Line.{one_line, lines_run}
use Rattle.model.specs.Calls.{access, ran_answer, refused_access, own, run_call, outcome, outcome_on, line_outcome, access_sizes, order, plain_refusal, refusal_of, run_done, done, on_lent}
use Rattle.model.proofs.Accepted.{is_refused, is_done, order_formed, and_none}
use Rattle.model.proofs.Tests.{all5}
use Rattle.model.proofs.Colours.{sized_bytes}
use Rattle.model.proofs.Runs.{run_one, meets_undrawn}
use Rattle.lent.specs.declared.Lent.{Lent}
use Rattle.lent.specs.Cells.{cells_of}
use Rattle.scanline.specs.Shown.{IsRun}
use Rattle.runs.specs.After.{after_line}

-- what a run is lent, with these cells
abbrev with_lines : Cells → List ℕ → List ℕ → Memory
with_lines k b f = record { cells = k; line = b; colours = f }

-- lines that were run, and what they are as a run
ran_is : (why most : ℕ) (s : State) (next : Ppu) (l r n o p b f : List ℕ) (k : ℕ) (met : Bool) (x : Access) → IsRun why most s k met (state next (line_memory l r n o p b f))
    → x ≡ access (ran_answer k met next) next → line_outcome x l r n o p b f ≡ done (run_call own why most) s
unfolding done run_done
ran_is why most s next l r n o p b f k met x is e =
    ap (λ (y : Access). line_outcome y l r n o p b f) e ∙ (λ i. outcome (ran_answer (is.count i) (is.reason i) (is.after i).unit) (is.after i))

-- A UNIT AND MEMORY THAT ARE NOT REFUSED
pub formed : (u : Ppu) (fits : Bool) → 0 ≡ plain_refusal fits u → is_well_formed u ≡ true
unfolding plain_refusal
formed u fits e = order_formed _ _ _ _ _ (sym e)

module _ (u : Ppu) (l r n o p : List ℕ) (lent : Option Lent) (m : Lent)
    (made : MatchOption lent (access_sizes u.board (length l) (length r) (length n) (length o) (length p) ≡ false)
    (λ m. (access_sizes u.board (length l) (length r) (length n) (length o) (length p) ≡ true) × (cells_of m ≡ access_cells l r n o p)))
    (is : lent ≡ Some m) (none : 0 ≡ plain_refusal (is_some lent) u) where
  sized : (access_sizes u.board (length l) (length r) (length n) (length o) (length p) ≡ true) × (cells_of m ≡ access_cells l r n o p)
  sized = rw is at made

  pub ram_long : length m.nametables.now ≡ nametable_length u.board
  ram_long =
      let z = all5 (eqb (length l) 4096) (eqb (length r) 4096) (eqb (length n) (nametable_length u.board)) (eqb (length o) 256) (eqb (length p) 32) sized.0 in
      ap (λ (k : Cells). length k.nametables) sized.1 ∙ eqb-true (length n) (nametable_length u.board) z.2

  module _ (b c b0 : List ℕ) (line : IsWholeChunk b b0 256) where
    module _ (why most : ℕ) (known : why ≤ 2) (x : Access) where
      abbrev at : State
      at = state u (line_memory l r n o p b (numbers_of c))

      refusal_is : (k : Bool) → eqb (length c) 512 ≡ k → refusal_of (run_call own why most) at ≡ order true true k true false
      unfolding refusal_of
      refusal_is k e = rw (lt-ltb why 3 (omega arith), formed u (is_some lent) none, sized.0, eq-eqb (length b) 256 line.long, sized_bytes c, e, and_none (is_drawing u))

      -- colours of another length
      pub colours_wrong : (length c ≡ 512 → ⊥) → x ≡ refused_access 2 u → line_outcome x l r n o p b0 (numbers_of c) ≡ on_lent (run_call own why most) at
      unfolding order
      colours_wrong h e =
          (λ i. line_outcome (e i) l r n o p (line.same i) (numbers_of c)) ∙ is_refused (run_call own why most) at 2 (sym (refusal_is false (ne_eqb (length c) 512 h))) (λ z. omega (arith, z))

      pub run_is : (c0 : List ℕ) → IsWholeChunk c c0 512 → (next : Ppu) (b' f' : List ℕ) (j : ℕ) (met : Bool)
          → IsRun why most (state u (with_lines (cells_of m) b0 (numbers_of c0))) j met (state next (with_lines (cells_of m) b' f'))
          → x ≡ access (ran_answer j met next) next → line_outcome x l r n o p b' f' ≡ on_lent (run_call own why most) at
      unfolding order
      run_is c0 colours next b' f' j met h e =
          let t : IsRun why most at j met (state next (line_memory l r n o p b' f')) =
          transport (λ i. IsRun why most (state u (with_lines (sized.1 i) (line.same i) (numbers_of (colours.same i)))) j met (state next (with_lines (sized.1 i) b' f'))) h in
          ran_is why most at next l r n o p b' f' j met x t e ∙ is_done (run_call own why most) at 0 (sym (refusal_is true (eq-eqb (length c) 512 colours.long))) refl

-- A LINE THAT IS NOT DRAWN
pub undrawn_run : (u next : Ppu) (why : ℕ) (m : Bool) (x : Access) → ltb u.scanline 240 && is_rendering u ≡ false → m ≡ (eqb why 1 && (bit 128 u.control && eqb u.scanline 241))
    → ((l r n o p b f : List ℕ) → next ≡ (one_line (state u (line_memory l r n o p b f))).unit) → x ≡ access (ran_answer 1 m next) next
    → (l r n o p b f : List ℕ) → x ≡ after_line why (state u (line_memory l r n o p b f))
undrawn_run u next why m x h em en ex l r n o p b f =
    let met = em ∙ sym (meets_undrawn (state u (line_memory l r n o p b f)) why h) in
    ex ∙ (λ i. access (ran_answer 1 (met i) (en l r n o p b f i)) (en l r n o p b f i))

-- with its buffers it is the run of one line
pub line_is : (why : ℕ) (s : State) (x : Access) (l r n o p b f : List ℕ) → x ≡ after_line why s → line_memory l r n o p b f ≡ (one_line s).memory
    → line_outcome x l r n o p b f ≡ done (run_call own why 1) s
unfolding done run_done lines_run
line_is why s x l r n o p b f e m =
    let one = run_one why s in
    (λ i. outcome_on (e i) (m i)) ∙ sym (λ i. outcome (ran_answer (one.0 i) (one.1 i) (lines_run (one.0 i) s).unit) (lines_run (one.0 i) s))
