-- The loops: what holds at their heads.
use Prim.Native.Nat.{ℕ, suc, ◌+◌, ◌-◌, ◌%◌, ◌<◌, ◌≤◌, max}
use mir.Val.{bool_byte}
use mathlib.Core.Path.{◌≡◌, refl, sym, ◌∙◌}
use mathlib.Core.Bool.{Bool, true, false, cond, ◌||◌}
use mathlib.Core.List.{List, ◌∷◌, ◌++◌}
use native.Mathlib.Omega.{arith}
use native.Mathlib.Numerals.{add-one}
use native.Mathlib.Nat.{zero-add}
use lib.Dec.{eqb, leb}
use lib.ListN.{length, get_or, set, drop, replicate, length-set, length-replicate, get_or-replicate, drop_of_length-le}
use lib.Seq.{drop-cons, get_or_at, get_or-set_same, get_or-set_other}
use borrow.Author.Tests.{eq-eqb, ne_eqb, eqb-true, eqb-false, leb-true, leb-false, le-leb, lt-leb}
use Rattle.model.specs.Line.{tab, any_of}
use Rattle.model.specs.Sprites.{count_of}
use Rattle.model.specs.Text.{rows_length, lowest_tile}
use Rattle.model.proofs.Tab.{length_tab, tab_more, tab_done, tab_ext}
use Rattle.text.specs.Passes.{is_zero, spaced, tile_for, tile_byte, no_tile}

-- all 960 bytes are stored
pub filled : (f : ℕ → ℕ) (k : ℕ) (d₀ d : List ℕ) → d ≡ tab f k ++ drop k d₀ → length d₀ ≡ rows_length → k ≤ rows_length → rows_length ≤ k → d ≡ tab f rows_length
filled f k d₀ d e h le ge = tab_done f k 960 d₀ d (omega arith) h e

-- spaces, and how many
module _ (d₀ d : List ℕ) (k : ℕ) (lt : k < length d₀) (e : d ≡ tab (spaced d₀) k ++ drop k d₀) where
  ahead : get_or d k 0 ≡ get_or d₀ k 0
  ahead = rw (e, drop-cons d₀ k 0) (get_or_at (tab (spaced d₀) k) (get_or d₀ k 0) (drop (suc k) d₀) 0 k (length_tab (spaced d₀) k))

  pub spaced_more : (v : ℕ) → v ≡ cond (eqb (get_or d k 0) 0) 32 (get_or d k 0) → set d k v ≡ tab (spaced d₀) (k + 1) ++ drop (k + 1) d₀
  unfolding spaced is_zero
  spaced_more v f = tab_more (spaced d₀) k d₀ d v lt e (f ∙ rw ahead)

  pub counted_more : (n o : ℕ) → n ≡ count_of (is_zero d₀) k → o ≡ bool_byte (eqb (get_or d k 0) 0) → n + o ≡ count_of (is_zero d₀) (k + 1)
  unfolding is_zero count_of
  counted_more n o g h = rw (add-one k, h, g, ahead) (go (eqb (get_or d₀ k 0) 0))
    where
      go : (z : Bool) → count_of (is_zero d₀) k + bool_byte z ≡ cond z (count_of (is_zero d₀) k + 1) (count_of (is_zero d₀) k)
      go true = refl
      go false = omega arith

pub few_more : (n k o : ℕ) (z : Bool) → n ≤ k → o ≡ bool_byte z → n + o ≤ k + 1
few_more n k o true h e = omega (arith, e)
few_more n k o false h e = omega (arith, e)

pub counted_all : (p : ℕ → Bool) (n k : ℕ) → n ≡ count_of p k → k ≤ rows_length → rows_length ≤ k → n ≡ count_of p rows_length
counted_all p n k e le ge = let z : k ≡ 960 = omega arith in rw z at e

-- A PAGE: the lowest tile from i on with each character, or 256
pub record Inverted (table tiles : List ℕ) (i : ℕ) : Type 0 where
  pub room : i ≤ 256
  pub long : length tiles ≡ 256
  pub lowest : (c : ℕ) → c < 256 → get_or tiles c 0 ≡ i + lowest_tile c (drop i table)

pub inverted_start : (table : List ℕ) → length table ≡ 256 → Inverted table (replicate 256 256) 256
unfolding lowest_tile
inverted_start table h =
    record {
      room = omega arith;
      long = length-replicate {A = ℕ} 256 256;
      lowest = λ c lt. get_or-replicate 256 c 256 0 lt ∙ sym (rw (drop_of_length-le table {i = 256} (omega arith)));
    }

-- one tile lower
lower : (c b n i : ℕ) (l : List ℕ) → (b ≡ c → ⊥) → n ≡ suc i + lowest_tile c l → n ≡ i + lowest_tile c (b ∷ l)
unfolding lowest_tile
lower c b n i l h e = rw (ne_eqb b c h) (omega arith)

here : (c b i : ℕ) (l : List ℕ) → b ≡ c → i ≡ i + lowest_tile c (b ∷ l)
unfolding lowest_tile
here c b i l h = rw (eq-eqb b c h) (omega arith)

module _ (table tiles : List ℕ) (i j : ℕ) (m : Inverted table tiles i) where
  pub inverted_more : (b : ℕ) → length table ≡ 256 → 0 < i → j ≡ i - 1 → b ≡ get_or table j 0 → Inverted table (set tiles b j) j
  inverted_more b h pos e f =
      record { room = omega (arith, m.room); long = simp length-set m.long; lowest = each }
    where
      s : i ≡ suc j
      s = omega (arith, add-one j)

      d : drop j table ≡ b ∷ drop i table
      d = drop-cons table j 0 (omega (arith, m.room)) ∙ rw (← f, s)

      each : (c : ℕ) → c < 256 → get_or (set tiles b j) c 0 ≡ j + lowest_tile c (drop j table)
      each c lt = rw d (go (eqb b c) refl)
        where
          go : (t : Bool) → eqb b c ≡ t → get_or (set tiles b j) c 0 ≡ j + lowest_tile c (b ∷ drop i table)
          go true q = rw (← eqb-true b c q, get_or-set_same tiles b j 0 (omega (arith, m.long, eqb-true b c q))) (here b b j (drop i table) refl)
          go false q =
              let ne : b ≡ c → ⊥ = eqb-false b c q in
              rw (get_or-set_other tiles b c j 0 (λ (z : c ≡ b). ne (sym z))) (lower c b (get_or tiles c 0) j (drop i table) ne (rw (← s) (m.lowest c lt)))

-- and none for byte 0
pub inverted_done : (table tiles : List ℕ) (i : ℕ) → Inverted table tiles i → length table ≡ 256 → i ≤ 0 → set tiles 0 256 ≡ tab (tile_for table) 256
unfolding tile_for
inverted_done table tiles i m h z = tab_ext (tile_for table) 256 (set tiles 0 256) (simp length-set m.long) each
  where
    e : i ≡ 0
    e = omega arith

    each : (c : ℕ) → c < 256 → get_or (set tiles 0 256) c 0 ≡ tile_for table c
    each c lt = go (eqb c 0) refl
      where
        go : (t : Bool) → eqb c 0 ≡ t → get_or (set tiles 0 256) c 0 ≡ cond t (length table) (lowest_tile c table)
        go true q = rw (eqb-true c 0 q, get_or-set_same tiles 0 256 0 (omega (arith, m.long))) (sym h)
        go false q = rw (get_or-set_other tiles 0 c 256 0 (eqb-false c 0 q)) (rw e at (m.lowest c lt) ∙ zero-add (lowest_tile c table))

pub ruleset inverted_loop = (inverted_start, inverted_more, inverted_done)

-- the tile bytes, and whether a character has no tile: the largest tile so far tells
larger_or : (n a b : ℕ) → leb n (max a b) ≡ leb n a || leb n b
larger_or n a b = go (leb n a) (leb n b) refl refl
  where
    go : (y z : Bool) → leb n a ≡ y → leb n b ≡ z → leb n (max a b) ≡ y || z
    go true z q r = le-leb n (max a b) (let k = leb-true n a q in omega arith)
    go false true q r = le-leb n (max a b) (let l = leb-true n b r in omega arith)
    go false false q r = lt-leb n (max a b) (let k = leb-false n a q in let l = leb-false n b r in omega arith)

module _ (tiles rows : List ℕ) where
  pub tile_more : (d₀ d : List ℕ) (k v t : ℕ) → k < length d₀ → d ≡ tab (tile_byte tiles rows) k ++ drop k d₀ → t ≡ get_or rows k 0 → v ≡ get_or tiles t 0 % 256
      → set d k v ≡ tab (tile_byte tiles rows) (k + 1) ++ drop (k + 1) d₀
  unfolding tile_byte
  tile_more d₀ d k v t lt e f g = tab_more (tile_byte tiles rows) k d₀ d v lt e (g ∙ rw f)

  pub missed_more : (most t l k : ℕ) → leb 256 most ≡ any_of (no_tile tiles rows) k → t ≡ get_or rows k 0 → l ≡ max most (get_or tiles t 0) → leb 256 l ≡ any_of (no_tile tiles rows) (k + 1)
  unfolding no_tile any_of
  missed_more most t l k e f g = rw (add-one k, g, larger_or 256 most (get_or tiles t 0), e, f)

pub missed_all : (p : ℕ → Bool) (most k : ℕ) → leb 256 most ≡ any_of p k → k ≤ rows_length → rows_length ≤ k → leb 256 most ≡ any_of p rows_length
missed_all p most k e le ge = let z : k ≡ 960 = omega arith in rw z at e
