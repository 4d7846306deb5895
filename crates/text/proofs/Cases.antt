-- The ways of each function, for `search`.
use Prim.Native.Nat.{ℕ, suc, ◌%◌, ◌≤◌, ◌<◌}
use mathlib.Core.Path.{◌≡◌, refl, sym, ◌∙◌}
use mathlib.Core.Bool.{Bool, true, false, true≢false, cond, not, ◌&&◌}
use mathlib.Core.List.{List, [], ◌∷◌, ◌++◌}
use native.Mathlib.Omega.{arith}
use lib.Dec.{eqb, ltb, leb}
use lib.ListN.{length, get_or, drop}
use mir.Val.{Fits}
use mir.Syntax.{w8}
use borrow.Author.Tests.{eq-eqb, ne_eqb, ltb-true, ltb-false, le-leb, lt-leb, not-false}
use Rattle.std.specs.Array.{IsWholeChunk}
use Rattle.model.specs.declared.TextAnswer.{TextAnswer}
use Rattle.model.specs.Sprites.{count_of}
use Rattle.model.specs.Line.{tab, any_of}
use Rattle.model.specs.Text.{rows_length, character_of, rows_of, bare_count, lowest_tile, is_known, some_unknown, page_of, text_long, text_answer, written, text_call, page_call}
use Rattle.model.proofs.Tab.{get_or_tab, tab_cong}
use Rattle.model.proofs.Text.{count_cong, any_cong, any_none}
use Rattle.text.specs.Passes.{table_byte, is_zero, spaced, tile_for, tile_byte, no_tile}

-- lengths
module _ (p t r : List ℕ) where
  pub page_wrong : (length p ≡ 1024 → ⊥) → text_long p t r ≡ false
  unfolding text_long
  page_wrong h = rw (ne_eqb (length p) 1024 h)

  pub table_wrong : (length t ≡ 256 → ⊥) → text_long p t r ≡ false
  unfolding text_long
  table_wrong h = rw (ne_eqb (length t) 256 h) (none (eqb (length p) 1024))
    where
      none : (x : Bool) → x && false ≡ false
      none true = refl
      none false = refl

  pub rows_wrong : (length r ≡ 960 → ⊥) → text_long p t r ≡ false
  unfolding text_long
  rows_wrong h = rw (ne_eqb (length r) 960 h) (none (eqb (length p) 1024) (eqb (length t) 256))
    where
      none : (x y : Bool) → x && (y && false) ≡ false
      none true true = refl
      none true false = refl
      none false y = refl

  right_lengths : length p ≡ 1024 → length t ≡ 256 → length r ≡ 960 → text_long p t r ≡ true
  unfolding text_long
  right_lengths g h i = rw (eq-eqb (length p) 1024 g, eq-eqb (length t) 256 h, eq-eqb (length r) 960 i)

-- the table's bytes, spaced, are the rows
module _ (t p d : List ℕ) (e : d ≡ tab (table_byte t p) rows_length) where
  looked : (k : ℕ) → k < rows_length → get_or d k 0 ≡ get_or t (get_or p k 0) 0
  unfolding table_byte
  looked k lt = rw (e, get_or_tab (table_byte t p) 960 k lt)

  pub rows_put : (d' : List ℕ) → d' ≡ tab (spaced d) rows_length → d' ≡ rows_of t p
  unfolding rows_of character_of spaced is_zero
  rows_put d' f = f ∙ tab_cong (spaced d) (λ (k : ℕ). character_of t (get_or p k 0)) 960 (λ k lt. rw (looked k lt))

  pub bare_put : (n : ℕ) → n ≡ count_of (is_zero d) rows_length → n ≡ bare_count t p
  unfolding bare_count is_zero
  bare_put n f = f ∙ count_cong (is_zero d) (λ (k : ℕ). eqb (get_or t (get_or p k 0) 0) 0) 960 (λ k lt. rw (looked k lt))

pub ruleset rows_cases = (rows_put, bare_put)

-- page and table to rows
module _ (p t r r' : List ℕ) (x : TextAnswer) where
  pub text_refused : text_long p t r ≡ false → r' ≡ r → x ≡ text_answer 2 0 → written x r' ≡ text_call p t r
  unfolding text_call
  text_refused h e g = rw (g, e, h)

  pub text_done : (p₁ t₁ r₁ : List ℕ) (n : ℕ) → IsWholeChunk p p₁ 1024 → IsWholeChunk t t₁ 256 → IsWholeChunk r r₁ 960 → r' ≡ rows_of t₁ p₁ → n ≡ bare_count t₁ p₁
      → x ≡ text_answer 0 n → written x r' ≡ text_call p t r
  unfolding text_call
  text_done p₁ t₁ r₁ n hp ht hr e f g = rw (g, e, f, hp.same, ht.same, right_lengths p t r hp.long ht.long hr.long)

-- rows and table to a page: the tile of a character that is known
lowest_small : (c : ℕ) (t : List ℕ) → lowest_tile c t ≤ length t
unfolding lowest_tile
lowest_small c [] = omega arith
lowest_small c (x ∷ t) = go (lowest_tile c t) (length t) (eqb x c) (lowest_small c t)
  where
    go : (p n : ℕ) (b : Bool) → p ≤ n → cond b 0 (suc p) ≤ suc n
    go p n true h = omega arith
    go p n false h = omega arith

missing : (n p : ℕ) (z : Bool) → p ≤ n → leb n (cond z n p) ≡ not (not z && ltb p n)
missing n p true h = le-leb n n (omega arith)
missing n p false h = go (ltb p n) refl
  where
    go : (b : Bool) → ltb p n ≡ b → leb n p ≡ not b
    go true e = lt-leb n p (ltb-true p n e)
    go false e = le-leb n p (ltb-false p n e)

module _ (t tiles r : List ℕ) (ht : length t ≡ 256) (e : tiles ≡ tab (tile_for t) 256) (b : (k : ℕ) → Fits w8 (get_or r k 0)) where
  tile_at_lem : (k : ℕ) → get_or tiles (get_or r k 0) 0 ≡ tile_for t (get_or r k 0)
  tile_at_lem k = rw (e, get_or_tab (tile_for t) 256 (get_or r k 0) (b k).fits)

  no_tile_lem : (k : ℕ) → no_tile tiles r k ≡ not (is_known t (get_or r k 0))
  unfolding no_tile tile_for is_known
  no_tile_lem k = rw (tile_at_lem k, ← ht) (missing (length t) (lowest_tile (get_or r k 0) t) (eqb (get_or r k 0) 0) (lowest_small (get_or r k 0) t))

  any_unknown : any_of (no_tile tiles r) rows_length ≡ some_unknown r t
  unfolding some_unknown
  any_unknown = any_cong (no_tile tiles r) (λ (k : ℕ). not (is_known t (get_or r k 0))) 960 (λ k lt. no_tile_lem k)

  tile_is : some_unknown r t ≡ false → (k : ℕ) → k < rows_length → tile_byte tiles r k ≡ lowest_tile (get_or r k 0) t
  unfolding tile_byte tile_for is_known some_unknown
  tile_is z k lt = rw (tile_at_lem k) (go (eqb (get_or r k 0) 0) (any_none (λ (k : ℕ). not (is_known t (get_or r k 0))) 960 k z lt))
    where
      go : (x : Bool) → not (not x && ltb (lowest_tile (get_or r k 0) t) (length t)) ≡ false
          → cond x (length t) (lowest_tile (get_or r k 0) t) % 256 ≡ lowest_tile (get_or r k 0) t
      go true q = absurd (true≢false q)
      go false q = let lt = ltb-true (lowest_tile (get_or r k 0) t) (length t) (not-false _ q) in omega (arith, lt)

  page_put : (p p' m : List ℕ) → some_unknown r t ≡ false → m ≡ tab (tile_byte tiles r) rows_length → p' ≡ m ++ drop rows_length p → p' ≡ page_of r t p
  unfolding page_of
  page_put p p' m z f g = g ∙ rw (f, tab_cong (tile_byte tiles r) (λ (k : ℕ). lowest_tile (get_or r k 0) t) 960 (tile_is z))

module _ (p p' t r : List ℕ) (x : TextAnswer) where
  pub page_refused : text_long p t r ≡ false → p' ≡ p → x ≡ text_answer 2 0 → written x p' ≡ page_call r t p
  unfolding page_call
  page_refused h e g = rw (g, e, h)

  module _ (t₁ r₁ tiles : List ℕ) (hp : length p ≡ 1024) (ht : IsWholeChunk t t₁ 256) (hr : IsWholeChunk r r₁ 960) (e : tiles ≡ tab (tile_for t₁) 256)
      (b : (k : ℕ) → Fits w8 (get_or r k 0)) where
    told : any_of (no_tile tiles r₁) rows_length ≡ some_unknown r t
    told = rw hr.same (any_unknown t tiles r ht.long (rw ht.same at e) b)

    pub page_unknown : any_of (no_tile tiles r₁) rows_length ≡ true → p' ≡ p → x ≡ text_answer 8 0 → written x p' ≡ page_call r t p
    unfolding page_call
    page_unknown a f g = rw (g, f, right_lengths p t r hp ht.long hr.long, sym told ∙ a)

    pub page_done : (m : List ℕ) → any_of (no_tile tiles r₁) rows_length ≡ false → m ≡ tab (tile_byte tiles r₁) rows_length → p' ≡ m ++ drop rows_length p → x ≡ text_answer 0 0
        → written x p' ≡ page_call r t p
    unfolding page_call
    page_done m a f f' g = rw (g, right_lengths p t r hp ht.long hr.long, sym told ∙ a, page_put t tiles r ht.long (rw ht.same at e) b p p' m (sym told ∙ a) (rw hr.same at f) f')
