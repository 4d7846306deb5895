-- Each unit is shown what it would be shown alone, and its unit and memory end as they would.
use mathlib.Core.Path.{◌≡◌, refl, sym, ap, ◌∙◌}
use mathlib.Core.Bool.{Bool, true, false, cond, ◌&&◌}
use mathlib.Core.List.{List, [], ◌∷◌}
use Prim.Native.Nat.{ℕ, zero, suc, ◌<◌}
use native.Mathlib.Omega.{arith}
use lib.Dec.{ltb, eqb}
use lib.ListN.{length, replicate, length-replicate}
use borrow.Author.Tests.{eqb-true, eqb-false, eq-eqb, ltb-true, lt-ltb}
use Rattle.model.specs.Unit.{Cells, Memory, access_cells, with_lines}
use Rattle.model.specs.Calls.{Lent, own, other, Call, lent_of, lent_memory, own_memory}
use Rattle.model_shared.specs.Shared.{Own, owned, Machine, own_of, memory_of, left_by, Left, Units, turn, by_number}
use Rattle.model_shared.specs.Sequence.{Entry, is_run, left_of, own_after, Shown, shown_of, machine_after, after_all, shown_to, only_by, calls_of, all_by}
use Rattle.model_shared.specs.Theorems.{SharedTurns, Unseen}
use Rattle.model_shared.proofs.Seen.{blank, Stays, stays, Blind}

-- LISTS OF CALLS: the other's taken out, unit k's are all there
pub calls_only : (k : ℕ) (es : List Entry) → calls_of k (only_by k es) ≡ calls_of k es
unfolding calls_of only_by
calls_only k [] = refl
calls_only k (e ∷ es) = go (eqb e.who k) refl (calls_only k es)
  where
    go : (x : Bool) → eqb e.who k ≡ x → calls_of k (only_by k es) ≡ calls_of k es → calls_of k (cond x (e ∷ only_by k es) (only_by k es)) ≡ cond x (e.what ∷ calls_of k es) (calls_of k es)
    go true q i = rw q (ap (λ (cs : List Call). e.what ∷ cs) i)
    go false q i = i

pub calls_all : (k : ℕ) (cs : List Call) → calls_of k (all_by k cs) ≡ cs
unfolding calls_of all_by
calls_all k [] = refl
calls_all k (c ∷ cs) = rw (eq-eqb k k refl) (ap (λ (l : List Call). c ∷ l) (calls_all k cs))

-- of two equal choices the inner one does not matter
picks : (x : Bool) (a b c : List ℕ) → cond x (cond x a b) c ≡ cond x a c
picks true a b c = refl
picks false a b c = refl

pick_long : (x : Bool) (a b c : List ℕ) → length b ≡ length c → length (cond x a b) ≡ length (cond x a c)
pick_long true a b c e = refl
pick_long false a b c e = e

pub line_of : (m m' : Memory) → blank m ≡ blank m' → length m.line ≡ length m'.line
line_of m m' e = sym (length-replicate {A = ℕ} (length m.line) 0) ∙ ap (λ (z : Memory). length z.line) e ∙ length-replicate {A = ℕ} (length m'.line) 0

pub colours_of : (m m' : Memory) → blank m ≡ blank m' → length m.colours ≡ length m'.colours
colours_of m m' e = sym (length-replicate {A = ℕ} (length m.colours) 0) ∙ ap (λ (z : Memory). length z.colours) e ∙ length-replicate {A = ℕ} (length m'.colours) 0

module _ {A U : Type 0} (p : Units A U) (blind : Blind p) where
  -- A CALL ON MEMORIES THAT DIFFER IN WHAT THE LINE BUFFERS HOLD. Lent l in place of what the call says
  abbrev left_as : Call → Lent → U → Memory → Left A U
  left_as c l u m = p.leaves c u (lent_memory l m)

  abbrev own_as : Call → Lent → U → Memory → Memory
  own_as c l u m = own_memory l m (left_as c l u m).memory

  abbrev ran : Call → A → Bool
  ran c a = is_run c && eqb (p.number a) 0

  abbrev shown_left : Call → Cells → Left A U → Shown A U
  shown_left c cells x =
      record { answer = x.answer; unit = x.unit; cells = cells; lent = x.memory.cells; line = cond (ran c x.answer) x.memory.line []; colours = cond (ran c x.answer) x.memory.colours [] }

  -- by what it leaves of a blank memory
  seen_own : (c : Call) (u : U) (m : Memory) → shown_left c (p.leaves c u m).memory.cells (p.leaves c u m) ≡ (let z = p.leaves c u (blank m) in shown_left c z.memory.cells z)
  seen_own c u m =
      let z = p.leaves c u (blank m) in
      let x : Bool = ran c z.answer in
      (λ i. shown_left c (blind.sees c u m i).memory.cells (blind.sees c u m i))
      ∙ (λ i. record { answer = z.answer; unit = z.unit; cells = z.memory.cells; lent = z.memory.cells; line = picks x z.memory.line m.line [] i; colours = picks x z.memory.colours m.colours [] i })

  same_shown : (c : Call) (l : Lent) (u : U) (m m' : Memory) → blank m ≡ blank m' → shown_left c (own_as c l u m).cells (left_as c l u m) ≡ shown_left c (own_as c l u m').cells (left_as c l u m')
  same_shown c own u m m' e = seen_own c u m ∙ (λ i. let z = p.leaves c u (e i) in shown_left c z.memory.cells z) ∙ sym (seen_own c u m')
  same_shown c (other y) u m m' e = λ i. shown_left c (e i).cells (p.leaves c u y)

  pub shown_same : (c : Call) (u : U) (m m' : Memory) → blank m ≡ blank m' → shown_of p c u m ≡ shown_of p c u m'
  unfolding shown_of
  shown_same c u m m' e = same_shown c (lent_of c) u m m' e

  same_own : (c : Call) (l : Lent) (u : U) (m m' : Memory) → blank m ≡ blank m' → blank (own_as c l u m) ≡ blank (own_as c l u m')
  same_own c own u m m' e =
      let z = p.leaves c u (blank m) in
      let x : Bool = ran c z.answer in
      let side : (n : Memory) → blank (p.leaves c u n).memory ≡ (let z = p.leaves c u (blank n) in blank (with_lines z.memory (cond (ran c z.answer) z.memory.line n.line) (cond (ran c z.answer) z.memory.colours n.colours))) =
      λ n i. blank (blind.sees c u n i).memory
      in
      side m
      ∙ (λ i. with_lines z.memory (replicate (pick_long x z.memory.line m.line m'.line (line_of m m' e) i) 0) (replicate (pick_long x z.memory.colours m.colours m'.colours (colours_of m m' e) i) 0))
      ∙ (λ i. let y = p.leaves c u (e i) in blank (with_lines y.memory (cond (ran c y.answer) y.memory.line m'.line) (cond (ran c y.answer) y.memory.colours m'.colours)))
      ∙ sym (side m')
  same_own c (other y) u m m' e = e

  pub own_same : (c : Call) (u : U) (m m' : Memory) → blank m ≡ blank m' → blank (own_after p c u m) ≡ blank (own_after p c u m')
  own_same c u m m' e = same_own c (lent_of c) u m m' e

  pub unit_same : (c : Call) (u : U) (m m' : Memory) → blank m ≡ blank m' → (left_of p c u m).unit ≡ (left_of p c u m').unit
  unit_same c u m m' e = unfold shown_of in ap (λ (s : Shown A U). s.unit) (shown_same c u m m' e)

  -- ONE UNIT ALONE: what it is shown of its calls, and what they leave
  unfoldable pub alone_shown : List Call → U → Memory → List (Shown A U)
  alone_shown [] u m = []
  alone_shown (c ∷ cs) u m = shown_of p c u m ∷ alone_shown cs (left_of p c u m).unit (own_after p c u m)

  unfoldable pub unit_end : List Call → U → Memory → U
  unit_end [] u m = u
  unit_end (c ∷ cs) u m = unit_end cs (left_of p c u m).unit (own_after p c u m)

  unfoldable pub memory_end : List Call → U → Memory → Memory
  memory_end [] u m = m
  memory_end (c ∷ cs) u m = memory_end cs (left_of p c u m).unit (own_after p c u m)

  -- THE MACHINE. What a call leaves of what is in common
  own_stays : (l : Lent) (m o : Memory) → Stays (lent_memory l m) o → Stays m (own_memory l m o)
  own_stays own m o h = h
  own_stays (other x) m o h = stays m

  after_stays : (c : Call) (u : U) (m : Memory) → Stays m (own_after p c u m)
  after_stays c u m = own_stays (lent_of c) m _ (blind.keeps c u (lent_memory (lent_of c) m))

  pub record Common (m m' : Machine U) : Type 0 where
    pub left : m'.left ≡ m.left
    pub right : m'.right ≡ m.right
    pub line : length m'.line ≡ length m.line
    pub colours : length m'.colours ≡ length m.colours

  common_by : (k : ℕ) (u : U) (a : Memory) (m : Machine U) → Stays (memory_of k m) a → Common m (left_by k u a m)
  common_by zero u a m t = record { left = t.left; right = t.right; line = t.line; colours = t.colours }
  common_by (suc k) u a m t = record { left = t.left; right = t.right; line = t.line; colours = t.colours }

  common_one : (e : Entry) (m : Machine U) → Common m (machine_after p e m)
  unfolding machine_after
  common_one e m = go (ltb e.who 2)
    where
      go : (x : Bool) → Common m (cond x (left_by e.who (left_of p e.what (own_of e.who m).unit (memory_of e.who m)).unit (own_after p e.what (own_of e.who m).unit (memory_of e.who m)) m) m)
      go true = common_by e.who _ _ m (after_stays e.what (own_of e.who m).unit (memory_of e.who m))
      go false = record { left = refl; right = refl; line = refl; colours = refl }

  pub common : (es : List Entry) (m : Machine U) → Common m (after_all p es m)
  unfolding after_all
  common [] m = record { left = refl; right = refl; line = refl; colours = refl }
  common (e ∷ es) m =
      let a = common_one e m in
      let b = common es (machine_after p e m) in
      record { left = b.left ∙ a.left; right = b.right ∙ a.right; line = b.line ∙ a.line; colours = b.colours ∙ a.colours }

  -- the calling unit's own is as it left it; the other's own is as it was
  own_by : (k : ℕ) (u : U) (a : Memory) (m : Machine U) → ((own_of k (left_by k u a m)).unit ≡ u) × (memory_of k (left_by k u a m) ≡ a)
  own_by zero u a m = (refl, refl)
  own_by (suc k) u a m = (refl, refl)

  other_by : (j k : ℕ) (u : U) (a : Memory) (m : Machine U) → j < 2 → k < 2 → (j ≡ k → ⊥) → own_of k (left_by j u a m) ≡ own_of k m
  other_by zero zero u a m hj hk h = absurd (h refl)
  other_by zero (suc k) u a m hj hk h = refl
  other_by (suc j) zero u a m hj hk h = refl
  other_by (suc j) (suc k) u a m hj hk h = absurd (h (omega arith))

  -- unit k and its memory on the machine, but for what the line buffers hold, are u and a
  pub record Near (k : ℕ) (m : Machine U) (u : U) (a : Memory) : Type 0 where
    pub unit : (own_of k m).unit ≡ u
    pub memory : blank (memory_of k m) ≡ blank a

  module _ (k : ℕ) (hk : k < 2) where
    own_near : (e : Entry) (m : Machine U) (u : U) (a : Memory) → e.who ≡ k → Near k m u a → Near k (machine_after p e m) (left_of p e.what u a).unit (own_after p e.what u a)
    unfolding machine_after
    own_near e m u a h n =
        let v : U = (own_of k m).unit in
        let b : Memory = memory_of k m in
        let c : Call = e.what in
        let o = own_by k (left_of p c v b).unit (own_after p c v b) m in
        rw (h, lt-ltb k 2 hk)
        (record {
          unit = o.0 ∙ ap (λ (w : U). (left_of p c w b).unit) n.unit ∙ unit_same c u b a n.memory;
          memory = ap blank o.1 ∙ ap (λ (w : U). blank (own_after p c w b)) n.unit ∙ own_same c u b a n.memory;
        })

    others : (e : Entry) (m : Machine U) → (e.who ≡ k → ⊥) → own_of k (machine_after p e m) ≡ own_of k m
    unfolding machine_after
    others e m h = go (ltb e.who 2) refl
      where
        go : (x : Bool) → ltb e.who 2 ≡ x
            → own_of k (cond x (left_by e.who (left_of p e.what (own_of e.who m).unit (memory_of e.who m)).unit (own_after p e.what (own_of e.who m).unit (memory_of e.who m)) m) m) ≡ own_of k m
        go true q = other_by e.who k _ _ m (ltb-true e.who 2 q) hk h
        go false q = refl

    other_near : (e : Entry) (m : Machine U) (u : U) (a : Memory) → (e.who ≡ k → ⊥) → Near k m u a → Near k (machine_after p e m) u a
    other_near e m u a h n =
        let o = others e m h in
        let t = common_one e m in
        record {
          unit = ap (λ (w : Own U). w.unit) o ∙ n.unit;
          memory = (λ i. with_lines (record { cells = access_cells (t.left i) (t.right i) (o i).nametables (o i).oam (o i).palette; line = []; colours = [] }) (replicate (t.line i) 0) (replicate (t.colours i) 0)) ∙ n.memory;
        }

    told : (es : List Entry) (m : Machine U) (u : U) (a : Memory) → Near k m u a → shown_to p k es m ≡ alone_shown (calls_of k es) u a
    unfolding shown_to alone_shown calls_of
    told [] m u a n = refl
    told (e ∷ es) m u a n = go (eqb e.who k) refl (told es (machine_after p e m))
      where
        go : (x : Bool) → eqb e.who k ≡ x → ((v : U) (b : Memory) → Near k (machine_after p e m) v b → shown_to p k es (machine_after p e m) ≡ alone_shown (calls_of k es) v b)
            → cond x (shown_of p e.what (own_of e.who m).unit (memory_of e.who m) ∷ shown_to p k es (machine_after p e m)) (shown_to p k es (machine_after p e m)) ≡ alone_shown (cond x (e.what ∷ calls_of k es) (calls_of k es)) u a
        go true q f =
            let w : e.who ≡ k = eqb-true e.who k q in
            let i = f (left_of p e.what u a).unit (own_after p e.what u a) (own_near e m u a w n) in
            let s : shown_of p e.what (own_of e.who m).unit (memory_of e.who m) ≡ shown_of p e.what u a =
            ap (λ (z : ℕ). shown_of p e.what (own_of z m).unit (memory_of z m)) w ∙ ap (λ (v : U). shown_of p e.what v (memory_of k m)) n.unit ∙ shown_same e.what u (memory_of k m) a n.memory
            in
            λ j. s j ∷ i j
        go false q f = f u a (other_near e m u a (eqb-false e.who k q) n)

    pub ends : (es : List Entry) (m : Machine U) (u : U) (a : Memory) → Near k m u a → Near k (after_all p es m) (unit_end (calls_of k es) u a) (memory_end (calls_of k es) u a)
    unfolding after_all unit_end memory_end calls_of
    ends [] m u a n = n
    ends (e ∷ es) m u a n = go (eqb e.who k) refl (ends es (machine_after p e m))
      where
        go : (x : Bool) → eqb e.who k ≡ x → ((v : U) (b : Memory) → Near k (machine_after p e m) v b → Near k (after_all p es (machine_after p e m)) (unit_end (calls_of k es) v b) (memory_end (calls_of k es) v b))
            → Near k (after_all p es (machine_after p e m)) (unit_end (cond x (e.what ∷ calls_of k es) (calls_of k es)) u a) (memory_end (cond x (e.what ∷ calls_of k es) (calls_of k es)) u a)
        go true q f = f _ _ (own_near e m u a (eqb-true e.who k q) n)
        go false q f = f u a (other_near e m u a (eqb-false e.who k q) n)

    -- what is near the same is the same of unit k's own
    pub near_own : (m m' : Machine U) (u : U) (a : Memory) → Near k m u a → Near k m' u a → own_of k m ≡ own_of k m'
    near_own m m' u a n n' =
        let e : blank (memory_of k m) ≡ blank (memory_of k m') = n.memory ∙ sym n'.memory in
        λ i. owned ((n.unit ∙ sym n'.unit) i) (e i).cells.nametables (e i).cells.oam (e i).cells.palette

    pub whatever : (ea eb : List Entry) (m m' : Machine U) → calls_of k ea ≡ calls_of k eb
        → own_of k m ≡ own_of k m' → m.left ≡ m'.left → m.right ≡ m'.right → length m.line ≡ length m'.line → length m.colours ≡ length m'.colours
        → (shown_to p k ea m ≡ shown_to p k eb m') × (own_of k (after_all p ea m) ≡ own_of k (after_all p eb m'))
    whatever ea eb m m' c o l r b f =
        let u : U = (own_of k m').unit in
        let a : Memory = memory_of k m' in
        let n : Near k m u a =
        record {
          unit = ap (λ (w : Own U). w.unit) o;
          memory = λ i. with_lines (record { cells = access_cells (l i) (r i) (o i).nametables (o i).oam (o i).palette; line = []; colours = [] }) (replicate (b i) 0) (replicate (f i) 0);
        }
        in
        let n' : Near k m' u a = record { unit = refl; memory = refl } in
        let na : Near k (after_all p ea m) (unit_end (calls_of k eb) u a) (memory_end (calls_of k eb) u a) = rw (← c) (ends ea m u a n) in
        (told ea m u a n ∙ ap (λ (cs : List Call). alone_shown cs u a) c ∙ sym (told eb m' u a n'), near_own (after_all p ea m) (after_all p eb m') _ _ na (ends eb m' u a n'))

  -- THE CLAIM
  pub unseen : Unseen p
  unseen =
      record {
        taken_out = λ k hk es m. (alone_so k hk es m).0;
        ends_so = λ k hk es m. (alone_so k hk es m).1;
        tables_stay = λ es m. ((common es m).left, (common es m).right);
        whatever_the_other = whatever;
      }
    where
      alone_so : (k : ℕ) (hk : k < 2) (es : List Entry) (m : Machine U) → (shown_to p k es m ≡ shown_to p k (only_by k es) m) × (own_of k (after_all p es m) ≡ own_of k (after_all p (only_by k es) m))
      alone_so k hk es m = whatever k hk es (only_by k es) m m (sym (calls_only k es)) refl refl refl refl refl

  -- A CALL BY NUMBER
  own_left : (c : Call) (l : Lent) (u : U) (m : Memory) → l ≡ own → (left_as c l u m ≡ p.leaves c u m) × (own_as c l u m ≡ (p.leaves c u m).memory)
  own_left c l u m e = (λ i. left_as c (e i) u m, λ i. own_as c (e i) u m)

  line_by : (k : ℕ) (u : U) (a : Memory) (m : Machine U) → ((left_by k u a m).line ≡ a.line) × ((left_by k u a m).colours ≡ a.colours)
  line_by zero u a m = (refl, refl)
  line_by (suc k) u a m = (refl, refl)

  -- what a unit is shown of a call on its own memory
  shown_own : (c : Call) (u : U) (a : Memory) → lent_of c ≡ own → shown_of p c u a ≡ shown_left c (p.leaves c u a).memory.cells (p.leaves c u a)
  unfolding shown_of
  shown_own c u a h = λ i. shown_left c (own_as c (h i) u a).cells (left_as c (h i) u a)

  shown_is : (e : Entry) (m : Machine U) → e.who < 2 → lent_of e.what ≡ own
      → let t = by_number p e.who e.what m in let s = shown_of p e.what (own_of e.who m).unit (memory_of e.who m) in
      (s.answer ≡ t.answer) × (s.unit ≡ (own_of e.who t.after).unit) × (s.cells ≡ (memory_of e.who t.after).cells)
      × (is_run e.what ≡ true → p.number t.answer ≡ 0 → (s.line ≡ t.after.line) × (s.colours ≡ t.after.colours))
  shown_is e m lt h =
      let k : ℕ = e.who in
      let c : Call = e.what in
      let x = p.leaves c (own_of k m).unit (memory_of k m) in
      let o = own_by k x.unit x.memory m in
      let l = line_by k x.unit x.memory m in
      rw (shown_own c (own_of k m).unit (memory_of k m) h, lt-ltb k 2 lt)
      (refl, sym o.0, sym (ap (λ (a : Memory). a.cells) o.1), λ r n. rw (r, n) (sym l.0, sym l.1))

  pub turns : SharedTurns p
  unfolding machine_after
  turns = record { one = one; shown = shown_is; others_own = others_own }
    where
      one : (e : Entry) (m : Machine U) → lent_of e.what ≡ own → (by_number p e.who e.what m).after ≡ machine_after p e m
      one e m h =
          let u : U = (own_of e.who m).unit in
          let a : Memory = memory_of e.who m in
          let o = own_left e.what (lent_of e.what) u a h in
          go (ltb e.who 2) _ _ (sym (ap (λ (x : Left A U). x.unit) o.0)) (sym o.1)
        where
          go : (x : Bool) (y z : A) {u v : U} {a b : Memory} → u ≡ v → a ≡ b → (cond x (turn y (left_by e.who u a m)) (turn z m)).after ≡ cond x (left_by e.who v b m) m
          go true y z q r = λ i. left_by e.who (q i) (r i) m
          go false y z q r = refl

      others_own : (j k : ℕ) (c : Call) (m : Machine U) → j < 2 → k < 2 → (j ≡ k → ⊥) → own_of k (by_number p j c m).after ≡ own_of k m
      others_own j k c m hj hk h = rw (lt-ltb j 2 hj) (other_by j k _ _ m hj hk h)
