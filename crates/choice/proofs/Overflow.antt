-- The search for overflow: the place of the eighth, and the diagonal from the next sprite on.
use Prim.Native.Nat.{ℕ, ◌+◌, ◌-◌, ◌*◌, ◌/◌, ◌%◌, ◌<◌, ◌≤◌}
use mathlib.Core.Path.{◌≡◌, refl, sym, ◌∙◌}
use mathlib.Core.Bool.{Bool, true, false, cond, ◌&&◌, ◌||◌, true≢false}
use mathlib.Core.List.{List, []}
use native.Mathlib.Omega.{arith}
use native.Mathlib.Numerals.{add-one}
use borrow.Author.Tests.{eq-eqb, lt-leb, leb-true, ltb-true}
use lib.Bits.{bit_or, bit_and}
use lib.Dec.{eqb, leb, ltb}
use lib.ListN.{get_or, take}
use Rattle.model.specs.Line.{any_of}
use Rattle.model.specs.Sprites.{oam_at, height, is_in_range, covers, places_of, count_of, tried, looks_of, overflows, looked_at}
use Rattle.model.proofs.Tests.{and_both}
use Rattle.model.proofs.Text.{any_none}
use Rattle.model.proofs.Search.{stands, looks_few, looks_eight, looks_on, looks_along, hit_over, hit_looked, past_over, past_looked}
use Rattle.choice.specs.Distance.{Distances, distance_of, is_from, near}
use Rattle.choice.specs.Overflow.{on_diagonal, hits, Eight}
use Rattle.choice.proofs.Places.{count_within, count_more, count_cong, from_in, from_covers, near_covers}
use Rattle.choice.proofs.Cases.{listed_1}

-- a test as 1 or 0
is_one : (b : Bool) (o : ℕ) → o ≡ cond b 1 0 → 1 ≤ o → b ≡ true
is_one true o e h = refl
is_one false o e h = absurd (none e)
  where
    none : o ≡ 0 → ⊥
    none z = omega (arith, h)

is_none : (b : Bool) → cond {A = ℕ} b 1 0 ≤ 0 → b ≡ false
is_none false h = refl
is_none true h = absurd (some h)
  where
    some : 1 ≤ 0 → ⊥
    some z = omega arith

first_not : (a b : Bool) → b ≡ true → a && b ≡ false → a ≡ false
first_not false b e f = refl
first_not true b e f = absurd (true≢false (sym e ∙ f))

-- of i sprites from at on n are near
pub record Sixteen (d : List ℕ) (h at n i : ℕ) : Type 0 where
  pub most : n ≤ i
  pub so_far : count_of (near d 0 h) at + n ≡ count_of (near d 0 h) (at + i)

pub sixteen_start : (d : List ℕ) (h at : ℕ) → Sixteen d h at 0 0
sixteen_start d h at = let z : at + 0 ≡ at = omega arith in record { most = omega arith; so_far = rw z (omega arith) }

pub sixteen_more : (d : List ℕ) (h at n i o : ℕ) → Sixteen d h at n i → o ≤ 1 → o ≡ cond (is_from 0 h (get_or d (at + i) 0)) 1 0 → Sixteen d h at (n + o) (i + 1)
unfolding near
sixteen_more d h at n i o m one e =
    let z : at + (i + 1) ≡ at + i + 1 = omega arith in
    let w : count_of (near d 0 h) at + (n + o) ≡ count_of (near d 0 h) at + n + o = omega arith in
    record { most = omega (arith, m.most); so_far = rw (z, w) (count_more (near d 0 h) (at + i) (count_of (near d 0 h) at + n) o m.so_far e) }

pub ruleset sixteen_loop = (sixteen_start, sixteen_more)

-- of the first i sprites k are near, and not eight yet
pub record Few (d : List ℕ) (h k i : ℕ) : Type 0 where
  pub few : k ≤ 7
  pub so_far : k ≡ count_of (near d 0 h) i

pub few_none : (d : List ℕ) (h : ℕ) → Few d h 0 0
unfolding count_of
few_none d h = record { few = omega arith; so_far = refl }

pub few_start : (d : List ℕ) (h k i : ℕ) → k ≤ 7 → k ≡ count_of (near d 0 h) i → Few d h k i
few_start d h k i f e = record { few = f; so_far = e }

pub few_sixteen : (d : List ℕ) (h k b o : ℕ) → Few d h k (16 * b) → count_of (near d 0 h) (16 * b) + o ≡ count_of (near d 0 h) (16 * b + 16) → k + o ≤ 7 → Few d h (k + o) (16 * (b + 1))
few_sixteen d h k b o m e few = let z : 16 * (b + 1) ≡ 16 * b + 16 = omega arith in record { few = few; so_far = rw z (omega (arith, e, m.so_far)) }

module _ (d : List ℕ) (h k i : ℕ) (m : Few d h k i) where
  module _ (o : ℕ) (e : o ≡ cond (is_from 0 h (get_or d i 0)) 1 0) where
    pub few_more : k + o ≤ 7 → Few d h (k + o) (i + 1)
    unfolding near
    few_more few = record { few = few; so_far = count_more (near d 0 h) i k o m.so_far e }

    pub eighth_count : 7 < k + o → o ≤ 1 → count_of (near d 0 h) i ≡ 7
    eighth_count ge one = omega (arith, m.few, m.so_far)

    pub eighth_near : 7 < k + o → near d 0 h i ≡ true
    unfolding near
    eighth_near ge = is_one (is_from 0 h (get_or d i 0)) o e (omega (arith, m.few))

  module _ (z : i ≡ 64) (some : 8 ≤ count_of (near d 0 h) 64) where
    pub never : ⊥
    never = omega (arith, m.few, rw z at m.so_far)

pub ruleset eighth_loop = (few_none, few_sixteen, few_start, few_more, eighth_count, eighth_near, never)

-- a byte in range, by its distance
pub tried_one : (n h y x r : ℕ) → h ≤ 16 → x ≡ distance_of n y → r ≡ cond (is_from 0 h x) 1 0 → r ≡ cond (is_in_range h n y) 1 0
tried_one n h y x r k e f =
    let z : n - 0 ≡ n = omega arith in
    let w : is_from 0 h (distance_of n y) ≡ (leb y (n - 0) && ltb (n - 0) (y + h)) = from_covers 0 n y h k (omega arith) (omega arith) in
    f ∙ rw (e, rw z at w)

-- ---- the bytes tried of some sprites
any_test : (x y z : Bool) → bit_or (cond x 1 0) (bit_and (cond y 1 0) (cond z 1 0)) ≡ cond (x || (y && z)) 1 0
any_test true true true = refl
any_test true true false = refl
any_test true false z = go z
  where
    go : (z : Bool) → bit_or 1 (bit_and 0 (cond z 1 0)) ≡ 1
    go true = refl
    go false = refl
any_test false true true = refl
any_test false true false = refl
any_test false false z = go z
  where
    go : (z : Bool) → bit_or 0 (bit_and 0 (cond z 1 0)) ≡ 0
    go true = refl
    go false = refl

-- of the first j bytes one is tried and in range, or none
module _ (h n : ℕ) (o : List ℕ) (i : ℕ) where
  pub some_start : 0 ≡ cond {A = ℕ} (any_of (hits h n o i) 0) 1 0
  unfolding any_of
  some_start = refl

  pub some_more : (any j t d : ℕ) → any ≡ cond (any_of (hits h n o i) j) 1 0 → t ≡ cond (is_in_range h n (get_or o (4 * i + j) 0)) 1 0 → d ≡ cond (on_diagonal j) 1 0
      → bit_or any (bit_and t d) ≡ cond (any_of (hits h n o i) (j + 1)) 1 0
  unfolding any_of hits
  some_more any j t d s f g = rw (add-one j, s, f, g) (any_test (any_of (hits h n o i) j) (is_in_range h n (get_or o (4 * i + j) 0)) (on_diagonal j))

pub ruleset some_loop = (some_start, some_more)

-- the search stands at byte b of sprite i
pub record Diagonal (c : ℕ) (o : List ℕ) (n i b : ℕ) : Type 0 where
  pub room : i ≤ 64
  pub byte : b < 4
  pub here : looks_of c o n i ≡ record { looked = i; byte = b; found = 8; over = false }

module _ (c : ℕ) (o : List ℕ) (n : ℕ) where
  pub diagonal_start : (k : ℕ) → Eight c o n k → Diagonal c o n k 0
  diagonal_start k s = record { room = s.room; byte = omega arith; here = s.here }

  module _ (i b : ℕ) (s : Diagonal c o n i b) (h y : ℕ) (g : h ≡ height c) (e : y ≡ cond (is_in_range h n (get_or o (4 * i + b) 0)) 1 0) (lt : i < 64) where
    pub diagonal_more : y ≤ 0 → (b' : ℕ) → b' ≡ (b + 1) % 4 → b' < 4 → Diagonal c o n (i + 1) b'
    unfolding tried
    diagonal_more none b' f l =
        record { room = omega arith; byte = l; here = rw f (looks_on c o n i b s.here (rw g at (is_none (is_in_range h n (get_or o (4 * i + b) 0)) (rw e at none)))) }

    hit : 0 < y → tried c o n i b ≡ true
    unfolding tried
    hit some = rw g at (is_one (is_in_range h n (get_or o (4 * i + b) 0)) y e (omega arith))

    pub set_looked : 0 < y → i + 1 ≡ looked_at c o n
    set_looked some = sym (hit_looked c o n i b lt s.here (hit some))

    pub set_over : 0 < y → true ≡ overflows c o n
    set_over some = sym (hit_over c o n i b lt s.here (hit some))

  module _ (i b : ℕ) (s : Diagonal c o n i b) (ge : 64 ≤ i) where
    past : looks_of c o n 64 ≡ record { looked = 64; byte = b; found = 8; over = false }
    past = let z : i ≡ 64 = omega (arith, s.room) in rw z at s.here

    pub end_looked : 64 ≡ looked_at c o n
    end_looked = sym (past_looked c o n b 8 past)

    pub end_over : false ≡ overflows c o n
    end_over = sym (past_over c o n b 8 past)

  -- so many that are not in range
  module _ (i size : ℕ) (s : Eight c o n i) (h r : ℕ) (g : h ≡ height c) (e : r ≡ cond (any_of (hits h n o i) (4 * size)) 1 0) (none : r ≤ 0) (fits : i + size ≤ 64) (fours : size % 4 ≡ 0) where
    -- the byte of sprite i + k that is tried stands on the diagonal
    no : (k : ℕ) → k < size → tried c o n (i + k) (k % 4) ≡ false
    unfolding tried hits on_diagonal
    no k lt =
        let j : ℕ = 4 * k + k % 4 in
        let w : 4 * i + (4 * k + k % 4) ≡ 4 * (i + k) + k % 4 = omega arith in
        let q : (4 * k + k % 4) / 4 ≡ k = omega arith in
        let a : (4 * k + k % 4) / 4 % 4 ≡ k % 4 = rw q in
        let b : (4 * k + k % 4) % 4 ≡ k % 4 = omega arith in
        let all : any_of (hits h n o i) (4 * size) ≡ false = is_none (any_of (hits h n o i) (4 * size)) (rw e at none) in
        let miss : hits h n o i j ≡ false = any_none (hits h n o i) (4 * size) j all (omega arith) in
        first_not (is_in_range (height c) n (oam_at o (i + k) (k % 4))) (eqb (j / 4 % 4) (j % 4)) (eq-eqb (j / 4 % 4) (j % 4) (a ∙ sym b)) (rw (g, w) at miss)

    pub eight_on : Eight c o n (i + size)
    eight_on = record { room = fits; here = rw fours at (looks_along c o n i s.here size no) }

pub ruleset diagonal_loop = (diagonal_start, diagonal_more, set_looked, set_over, end_looked, end_over)

-- the h distances from 0 or 1 on are among those from 0 to h
close_counts : (d : List ℕ) (from h : ℕ) → from ≤ 1 → count_of (near d from h) 64 ≤ count_of (near d 0 (h + 1)) 64
unfolding near is_from
close_counts d from h le = count_within (near d from h) (near d 0 (h + 1)) 64 (λ i. within (get_or d i 0))
  where
    within : (x : ℕ) → leb from x && ltb (x - from) h ≡ true → leb 0 x && ltb (x - 0) (h + 1) ≡ true
    within x e =
        let both = and_both (leb from x) (ltb (x - from) h) e in
        from_in 0 (h + 1) x (omega arith) (omega (arith, leb-true from x both.0, ltb-true (x - from) h both.1))

-- by distances: fewer than eight in range, or the place of the eighth
module _ (c n h : ℕ) (o d : List ℕ) (e : Distances n o d) (g : h ≡ height c) where
  near_is : (i : ℕ) → i < 64 → near d 0 h i ≡ covers c o n i
  near_is i lt = let z : n - 0 ≡ n = omega arith in rw g (rw z at (near_covers c n o d e 0 i lt (omega arith) (omega arith)))

  counts : (k : ℕ) → k ≤ 64 → count_of (near d 0 h) k ≡ count_of (covers c o n) k
  counts k le = count_cong (near d 0 h) (covers c o n) k (λ i lt. near_is i (omega arith))

  module _ (m : ℕ) (f : m ≡ count_of (near d 0 h) 64) (lt : m < 8) where
    few_looks : looks_of c o n 64 ≡ stands c o n 64 0 (count_of (covers c o n) 64)
    few_looks = looks_few c o n 64 (omega (arith, f, counts 64 (omega arith)))

    pub few_looked : 64 ≡ looked_at c o n
    few_looked = sym (past_looked c o n 0 (count_of (covers c o n) 64) few_looks)

    pub few_over : false ≡ overflows c o n
    few_over = sym (past_over c o n 0 (count_of (covers c o n) 64) few_looks)

  pub eight_at : (k : ℕ) → k < 64 → count_of (near d 0 h) k ≡ 7 → near d 0 h k ≡ true → Eight c o n (k + 1)
  eight_at k lt a b =
      record { room = omega arith; here = looks_eight c o n k (sym (counts k (omega arith)) ∙ a, sym (near_is k lt) ∙ b) }

pub ruleset searched_cases = (few_looked, few_over, eight_at)

-- fewer than eight distances from 0 to h, or none
module _ (c n : ℕ) (o d : List ℕ) (e : Distances n o d) (k : ℕ) where
  pub close_few : k ≡ count_of (near d 0 (height c + 1)) 64 → k < 8 → false ≡ overflows c o n
  close_few f lt = few_over c n (height c) o d e refl (count_of (near d 0 (height c)) 64) refl (omega (arith, f, close_counts d 0 (height c) (omega arith)))

  module _ (h : ℕ) (g : h ≡ height c) (f : k ≡ count_of (near d 0 (h + 1)) 64) where
    pub close_height : k ≡ count_of (near d 0 (height c + 1)) 64
    close_height = rw g at f

    pub close_under : (b : Bool) → k < 8 → b ≡ leb 8 k → b ≡ overflows c o n
    close_under b lt z = z ∙ lt-leb 8 k lt ∙ close_few close_height lt

    pub close_none : k ≡ 0 → false ≡ overflows c o n
    close_none z = close_few close_height (omega (arith, z))

    pub close_shown : k ≡ 0 → [] ≡ cond (eqb n 0) [] (take 8 (places_of (covers c o (n - 1)) 64))
    close_shown z = listed_1 c n h o d e g (count_of (near d 1 h) 64) refl (omega (arith, f, z, close_counts d 1 h (omega arith)))

pub ruleset choose_cases = (close_under, close_none, close_shown)
