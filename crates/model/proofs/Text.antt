-- The text of a screen: the lowest tile, the rows of a page of rows, and what the picture unit shows.
use Prim.Native.Nat.{ℕ, zero, suc, ◌+◌, ◌-◌, ◌*◌, ◌/◌, ◌%◌, ◌≤◌, ◌<◌}
use mathlib.Core.Path.{◌≡◌, refl, sym, ap, ◌∙◌}
use mathlib.Core.Bool.{Bool, true, false, true≢false, cond, not, ◌&&◌, ◌||◌}
use mathlib.Core.List.{List, [], ◌∷◌, ◌++◌}
use mathlib.Core.Logic.{⊎_elim}
use native.Mathlib.Omega.{arith}
use native.Mathlib.Nat.{le_of_suc-le-suc, not-suc-le-zero, eq-or-lt_of_le}
use lib.Dec.{eqb, ltb}
use lib.ListN.{length, drop, length-append, length-drop, get_or-append}
use lib.Seq.{get_or-take, get_or-drop, get_or-append-add, length-take-le}
use borrow.Author.Tests.{eqb-true, eqb-false, eq-eqb, ne_eqb, ltb-true, ltb-false, lt-ltb, not-false}
use Rattle.model.specs.declared.Board.{Board}
use Rattle.model.specs.Unit.{nametable_length}
use Rattle.model.specs.Record.{at}
use Rattle.model.specs.Address.{wiring_number, page_at, cell_of, nametable_byte, quarter_in, quarter_part}
use Rattle.model.specs.Scroll.{nametable, row, column}
use Rattle.model.specs.Background.{tile_at}
use Rattle.model.specs.Sprites.{count_of}
use Rattle.model.specs.Line.{tab, any_of}
use Rattle.model.specs.Text.{nametable_page, rows_length, character_of, rows_of, bare_count, lowest_tile, is_known, some_unknown, page_of, text_long, Written, text_answer, written, text_call, page_call, written_for_c, exported_text}
use Rattle.model.specs.Theorems.{QuarterPages, TextLengths, Stands, Rows, Pages, Shown}
use Rattle.model.proofs.Address.{page_small}
use Rattle.model.proofs.Tab.{length_tab, get_or_tab, tab_ext}
use Rattle.model.proofs.Tests.{and_both}

-- THE LOWEST TILE: of two with a character the first,
lowest_of_two : lowest_tile 65 (66 ∷ 65 ∷ 65 ∷ []) ≡ 1
unfolding lowest_tile
lowest_of_two = refl

-- which has the character, and no lower one has
pub lowest_has : (c : ℕ) (t : List ℕ) → lowest_tile c t < length t → at t (lowest_tile c t) ≡ c
unfolding lowest_tile
lowest_has c [] h = absurd (not-suc-le-zero h)
lowest_has c (x ∷ t) h = go (eqb x c) refl (lowest_has c t) h
  where
    go : (b : Bool) → eqb x c ≡ b → (lowest_tile c t < length t → at t (lowest_tile c t) ≡ c) → cond b 0 (suc (lowest_tile c t)) < suc (length t)
        → at (x ∷ t) (cond b 0 (suc (lowest_tile c t))) ≡ c
    go true e r l = eqb-true x c e
    go false e r l = r (le_of_suc-le-suc l)

pub lowest_first : (c : ℕ) (t : List ℕ) (j : ℕ) → j < lowest_tile c t → at t j ≡ c → ⊥
unfolding lowest_tile
lowest_first c [] j h e = not-suc-le-zero h
lowest_first c (x ∷ t) j h e = go (eqb x c) refl j h e (lowest_first c t)
  where
    go : (b : Bool) → eqb x c ≡ b → (j : ℕ) → j < cond b 0 (suc (lowest_tile c t)) → at (x ∷ t) j ≡ c → ((i : ℕ) → i < lowest_tile c t → at t i ≡ c → ⊥) → ⊥
    go true q j l p r = not-suc-le-zero l
    go false q zero l p r = eqb-false x c q p
    go false q (suc j) l p r = r j (le_of_suc-le-suc l) p

-- so it is not above a tile that has the character
pub lowest_le : (c : ℕ) (t : List ℕ) (i : ℕ) → at t i ≡ c → lowest_tile c t ≤ i
lowest_le c t i e = go (ltb i (lowest_tile c t)) refl
  where
    go : (b : Bool) → ltb i (lowest_tile c t) ≡ b → lowest_tile c t ≤ i
    go true q = absurd (lowest_first c t i (ltb-true i (lowest_tile c t) q) e)
    go false q = ltb-false i (lowest_tile c t) q

-- KNOWN is what stands in the table and is not byte 0
module _ (t : List ℕ) (c : ℕ) where
  pub known_stands : is_known t c ≡ true → Stands t c
  unfolding is_known
  known_stands h = go (eqb c 0) refl h
    where
      go : (b : Bool) → eqb c 0 ≡ b → not b && ltb (lowest_tile c t) (length t) ≡ true → Stands t c
      go true e q = absurd (true≢false (sym q))
      go false e q = let l = ltb-true (lowest_tile c t) (length t) q in (eqb-false c 0 e, lowest_tile c t, l, lowest_has c t l)

  pub stands_known : Stands t c → is_known t c ≡ true
  unfolding is_known
  stands_known s =
      let l : lowest_tile c t ≤ s.1 = lowest_le c t s.1 s.3 in
      let k : lowest_tile c t < length t = omega (arith, l, s.2) in
      rw (ne_eqb c 0 s.0, lt-ltb (lowest_tile c t) (length t) k)

  pub stands_has : Stands t c → at t (lowest_tile c t) ≡ c
  stands_has s = let l : lowest_tile c t ≤ s.1 = lowest_le c t s.1 s.3 in lowest_has c t (omega (arith, l, s.2))

-- HOW MANY AND WHETHER ANY
count_none : (f : ℕ → Bool) (n : ℕ) → ((k : ℕ) → k < n → f k ≡ false) → count_of f n ≡ 0
unfolding count_of
count_none f zero h = refl
count_none f (suc n) h = rw (h n (omega arith)) (count_none f n (λ k lt. h k (omega arith)))

pub count_cong : (f g : ℕ → Bool) (n : ℕ) → ((k : ℕ) → k < n → f k ≡ g k) → count_of f n ≡ count_of g n
unfolding count_of
count_cong f g zero h = refl
count_cong f g (suc n) h = rw (count_cong f g n (λ k lt. h k (omega arith)), h n (omega arith))

-- g has what f has, and k more
count_one_more : (f g : ℕ → Bool) (n k : ℕ) → k < n → ((j : ℕ) → j < n → (j ≡ k → ⊥) → g j ≡ f j) → f k ≡ false → g k ≡ true → count_of g n ≡ count_of f n + 1
unfolding count_of
count_one_more f g zero k h same a b = absurd (not-suc-le-zero h)
count_one_more f g (suc n) k h same a b =
    ⊎_elim
    (λ (e : k ≡ n). rw (← e, a, b, ← count_cong g f k (λ j lt. same j (omega (arith, lt, e)) (λ (q : j ≡ k). absurd (omega (arith, lt, q))))))
    (λ (lt : k < n). rw (same n (omega arith) (λ (q : n ≡ k). absurd (omega (arith, lt, q))), count_one_more f g n k lt (λ j l ne. same j (omega arith) ne) a b) (go (f n)))
    (eq-or-lt_of_le (le_of_suc-le-suc h))
  where
    go : (x : Bool) → cond x (count_of f n + 1 + 1) (count_of f n + 1) ≡ cond x (count_of f n + 1) (count_of f n) + 1
    go true = refl
    go false = refl

pub any_cong : (f g : ℕ → Bool) (n : ℕ) → ((k : ℕ) → k < n → f k ≡ g k) → any_of f n ≡ any_of g n
unfolding any_of
any_cong f g zero h = refl
any_cong f g (suc n) h = rw (any_cong f g n (λ k lt. h k (omega arith)), h n (omega arith))

pub any_none : (f : ℕ → Bool) (n k : ℕ) → any_of f n ≡ false → k < n → f k ≡ false
unfolding any_of
any_none f zero k e h = absurd (not-suc-le-zero h)
any_none f (suc n) k e h =
    let both : (any_of f n ≡ false) × (f n ≡ false) = neither (any_of f n) (f n) e in
    ⊎_elim (λ (z : k ≡ n). rw z both.1) (λ (lt : k < n). any_none f n k both.0 lt) (eq-or-lt_of_le (le_of_suc-le-suc h))
  where
    neither : (a b : Bool) → a || b ≡ false → (a ≡ false) × (b ≡ false)
    neither true b q = absurd (true≢false q)
    neither false b q = (refl, q)

none_any : (f : ℕ → Bool) (n : ℕ) → ((k : ℕ) → k < n → f k ≡ false) → any_of f n ≡ false
unfolding any_of
none_any f zero h = refl
none_any f (suc n) h = rw (none_any f n (λ k lt. h k (omega arith)), h n (omega arith))

-- LENGTHS
module _ (p t r : List ℕ) where
  pub long_lengths : text_long p t r ≡ true → TextLengths p t r
  unfolding text_long
  long_lengths h =
      let both = and_both (eqb (length p) 1024) (eqb (length t) 256 && eqb (length r) 960) h in
      let rest = and_both (eqb (length t) 256) (eqb (length r) 960) both.1 in
      (eqb-true (length p) 1024 both.0, eqb-true (length t) 256 rest.0, eqb-true (length r) 960 rest.1)

  pub lengths_long : TextLengths p t r → text_long p t r ≡ true
  unfolding text_long
  lengths_long l = rw (eq-eqb (length p) 1024 l.0, eq-eqb (length t) 256 l.1, eq-eqb (length r) 960 l.2)

  not_long : (TextLengths p t r → ⊥) → text_long p t r ≡ false
  not_long h = go (text_long p t r) refl
    where
      go : (b : Bool) → text_long p t r ≡ b → b ≡ false
      go true e = absurd (h (long_lengths e))
      go false e = refl

-- a refused call leaves what it was lent, and its answer for C is its number
abbrev Leaves : List ℕ → Written → Type 0
Leaves l w = (w.answer.number ≡ 0 → ⊥) → exported_text w ≡ written_for_c w.answer.number l

refused_leaves : (n : ℕ) (l : List ℕ) → Leaves l (written (text_answer n 0) l)
refused_leaves n l h = ap (λ (k : ℕ). written_for_c k l) (omega arith)

-- ROWS
module _ (p t r : List ℕ) where
  row_at : (k : ℕ) → k < rows_length → at (rows_of t p) k ≡ character_of t (at p k)
  unfolding rows_of
  row_at k lt = get_or_tab _ _ k (omega arith)

  row_character : (k : ℕ) → k < rows_length → (at t (at p k) ≡ 0 → ⊥) → at (rows_of t p) k ≡ at t (at p k)
  unfolding character_of
  row_character k lt h = row_at k lt ∙ rw (ne_eqb (at t (at p k)) 0 h)

  row_space : (k : ℕ) → k < rows_length → at t (at p k) ≡ 0 → at (rows_of t p) k ≡ 32
  unfolding character_of
  row_space k lt e = row_at k lt ∙ rw (eq-eqb (at t (at p k)) 0 e)

  text_leaves : (b : Bool) → Leaves r (cond b (written (text_answer 0 (bare_count t p)) (rows_of t p)) (written (text_answer 2 0) r))
  text_leaves true h = absurd (h refl)
  text_leaves false h = refused_leaves 2 r h

  pub rows : Rows p t r
  unfolding text_call rows_of bare_count
  rows =
      record {
        text_2 = λ h. rw (not_long p t r h);
        text_0 = λ l. rw (lengths_long p t r l);
        rows_long = length_tab _ _;
        row_character = row_character;
        row_space = row_space;
        none_bare = λ h. count_none (λ (k : ℕ). eqb (at t (at p k)) 0) 960 (λ k lt. ne_eqb (at t (at p k)) 0 (h k lt));
        one_more = λ p' k lt same h e.
            count_one_more (λ (j : ℕ). eqb (at t (at p j)) 0) (λ (j : ℕ). eqb (at t (at p' j)) 0) 960 k lt
            (λ j l ne. ap (λ (i : ℕ). eqb (at t i) 0) (same j l ne)) (ne_eqb (at t (at p k)) 0 h) (eq-eqb (at t (at p' k)) 0 e);
        text_refused = text_leaves (text_long p t r);
      }

-- PAGES
module _ (r t p : List ℕ) where
  abbrev tiles : ℕ → ℕ
  tiles k = lowest_tile (at r k) t

  tile_at_lem : (k : ℕ) → k < rows_length → at (page_of r t p) k ≡ lowest_tile (at r k) t
  unfolding page_of
  tile_at_lem k lt = get_or-append (tab tiles 960) _ 0 k (rw (length_tab tiles 960) lt) ∙ get_or_tab tiles 960 k lt

  attributes_stay : (k : ℕ) → rows_length ≤ k → at (page_of r t p) k ≡ at p k
  unfolding page_of
  attributes_stay k ge =
      let e : k ≡ length (tab tiles 960) + (k - 960) = omega (arith, length_tab tiles 960) in
      ap (λ (i : ℕ). at (tab tiles 960 ++ drop 960 p) i) e ∙ get_or-append-add (tab tiles 960) (drop 960 p) (k - 960) 0 ∙ get_or-drop 960 p (k - 960) 0
      ∙ ap (λ (i : ℕ). at p i) (omega arith)

  page_long : length p ≡ nametable_page → length (page_of r t p) ≡ nametable_page
  unfolding page_of
  page_long h = rw (length-append (tab tiles 960) (drop 960 p), length_tab tiles 960, length-drop 960 p, h)

  -- a character given comes back from its tile
  back : (k : ℕ) → k < rows_length → Stands t (at r k) → at t (at (page_of r t p) k) ≡ at r k
  back k lt s = ap (λ (i : ℕ). at t i) (tile_at_lem k lt) ∙ stands_has t (at r k) s

  module _ (all : (k : ℕ) → k < rows_length → Stands t (at r k)) where
    none_unknown : some_unknown r t ≡ false
    unfolding some_unknown
    none_unknown = none_any (λ (k : ℕ). not (is_known t (at r k))) 960 (λ k lt. rw (stands_known t (at r k) (all k lt)))

    not_bare : (k : ℕ) → k < rows_length → at t (at (page_of r t p) k) ≡ 0 → ⊥
    not_bare k lt e = (all k lt).0 (sym (back k lt (all k lt)) ∙ e)

    rows_back : length r ≡ rows_length → rows_of t (page_of r t p) ≡ r
    unfolding rows_of
    rows_back h =
        sym (tab_ext (λ (k : ℕ). character_of t (at (page_of r t p) k)) 960 r h (λ k lt. sym (sym (row_at (page_of r t p) t r k lt) ∙ row_character (page_of r t p) t r k lt (not_bare k lt) ∙ back k lt (all k lt))))

    none_counted : bare_count t (page_of r t p) ≡ 0
    none_counted = (rows (page_of r t p) t r).none_bare not_bare

  all_stand : some_unknown r t ≡ false → (k : ℕ) → k < rows_length → Stands t (at r k)
  unfolding some_unknown
  all_stand e k lt = known_stands t (at r k) (not-false (is_known t (at r k)) (any_none (λ (k : ℕ). not (is_known t (at r k))) 960 k e lt))

  some_unknown_lem : (k : ℕ) → k < rows_length → (Stands t (at r k) → ⊥) → some_unknown r t ≡ true
  some_unknown_lem k lt h = go (some_unknown r t) refl
    where
      go : (b : Bool) → some_unknown r t ≡ b → b ≡ true
      go true e = refl
      go false e = absurd (h (all_stand e k lt))

  page_2 : (TextLengths p t r → ⊥) → page_call r t p ≡ written (text_answer 2 0) p
  unfolding page_call
  page_2 h = rw (not_long p t r h)

  page_8 : TextLengths p t r → (k : ℕ) → k < rows_length → (Stands t (at r k) → ⊥) → page_call r t p ≡ written (text_answer 8 0) p
  unfolding page_call
  page_8 l k lt h = rw (lengths_long p t r l, some_unknown_lem k lt h)

  page_0 : TextLengths p t r → ((k : ℕ) → k < rows_length → Stands t (at r k)) → page_call r t p ≡ written (text_answer 0 0) (page_of r t p)
  unfolding page_call
  page_0 l all = rw (lengths_long p t r l, none_unknown all)

  -- a call that is done had all that it needs
  put : (s a : Bool) → (cond s (cond a (written (text_answer 8 0) p) (written (text_answer 0 0) (page_of r t p))) (written (text_answer 2 0) p)).answer.number ≡ 0
      → (s ≡ true) × (a ≡ false)
  put true true n = absurd (omega (arith, n))
  put true false n = (refl, refl)
  put false a n = absurd (omega (arith, n))

  calls_back : (page_call r t p).answer.number ≡ 0 → (r' : List ℕ) → length r' ≡ rows_length → text_call (page_call r t p).bytes t r' ≡ written (text_answer 0 0) r
  unfolding page_call text_call
  calls_back n r' h =
      let e = put (text_long p t r) (some_unknown r t) n in
      let l : TextLengths p t r = long_lengths p t r e.0 in
      let all = all_stand e.1 in
      rw (e.0, e.1, lengths_long (page_of r t p) t r' (page_long l.0, l.1, h), rows_back all l.2, none_counted all)

  page_leaves : (s a : Bool) → Leaves p (cond s (cond a (written (text_answer 8 0) p) (written (text_answer 0 0) (page_of r t p))) (written (text_answer 2 0) p))
  page_leaves true true h = refused_leaves 8 p h
  page_leaves true false h = absurd (h refl)
  page_leaves false a h = refused_leaves 2 p h

  pub pages : Pages r t p
  unfolding page_call
  pages =
      record {
        page_2 = page_2;
        page_8 = page_8;
        page_0 = page_0;
        tile_has = back;
        tile_lowest = λ k lt j h e. lowest_first (at r k) t j (rw (tile_at_lem k lt) at h) e;
        attributes_stay = attributes_stay;
        page_long = page_long;
        rows_back = λ h all. rows_back all h;
        calls_back = calls_back;
        page_refused = page_leaves (text_long p t r) (some_unknown r t);
      }

-- WHAT IS SHOWN
module _ (d : Board) (n : List ℕ) (h : length n ≡ nametable_length d) where
  quarter_byte : (q k : ℕ) → k < nametable_page → at (quarter_part d n q) k ≡ nametable_byte d.wiring n (8192 + 1024 * (q % 4) + k)
  unfolding quarter_part quarter_in cell_of
  quarter_byte q k lt =
      let w : ℕ = wiring_number d.wiring in
      let a : (8192 + 1024 * (q % 4) + k) / 1024 % 4 ≡ q % 4 = omega arith in
      let b : (8192 + 1024 * (q % 4) + k) % 1024 ≡ k = omega arith in
      rw (eq-eqb (length n) (nametable_length d) h, get_or-take 1024 (drop (page_at w (q % 4) * 1024) n) k 0 lt, get_or-drop (page_at w (q % 4) * 1024) n k 0, a, b)

  quarter_length : (q : ℕ) → length (quarter_part d n q) ≡ nametable_page
  unfolding quarter_part quarter_in
  quarter_length q =
      let w : ℕ = wiring_number d.wiring in
      let l : page_at w (q % 4) * 1024 + 1024 ≤ nametable_length d = page_small d.wiring (q % 4) (omega arith) in
      rw (eq-eqb (length n) (nametable_length d) h) (length-take-le 1024 (drop (page_at w (q % 4) * 1024) n) (rw (length-drop (page_at w (q % 4) * 1024) n) (omega (arith, l, h))))

  module _ (t : List ℕ) where
    character_at : (q k v : ℕ) → q < 4 → k < rows_length → 1024 * q + k ≡ v % 4096 → at (rows_of t (quarter_part d n q)) k ≡ character_of t (tile_at d.wiring n v)
    unfolding tile_at
    character_at q k v hq lt e =
        let a : 8192 + 1024 * (q % 4) + k ≡ 8192 + v % 4096 = omega (arith, e) in
        row_at (quarter_part d n q) t [] k lt ∙ ap (character_of t) (quarter_byte q k (omega arith) ∙ ap (λ (x : ℕ). nametable_byte d.wiring n x) a)

pub quarter_pages : (d : Board) (n : List ℕ) (q : ℕ) → QuarterPages d n q
unfolding quarter_part
quarter_pages d n q =
    record {
      quarter_byte = λ h. quarter_byte d n h q;
      quarter_length = λ h. quarter_length d n h q;
      quarter_empty = λ h. rw (ne_eqb (length n) (nametable_length d) h);
    }

pub screens : (d : Board) (n t : List ℕ) → Shown d n t
screens d n t =
    record {
      shown = λ h q r c hq hr hc. character_at d n h t q (32 * r + c) (1024 * q + 32 * r + c) hq (omega arith) (omega arith);
      shown_at = λ h v l. character_at d n h t (nametable v) (32 * row v + column v) v (omega arith) (omega arith) (omega arith);
    }
