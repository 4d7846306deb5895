-- A call is refused, or done; and what the one or the other says of it. For the contracts of the calls.
use Prim.Native.Nat.{ℕ, zero, suc}
use mathlib.Core.Path.{◌≡◌, refl, sym, ap, ◌∙◌}
use mathlib.Core.Bool.{Bool, true, false, cond, ◌&&◌}
use mathlib.Core.List.{List}
use native.Mathlib.Omega.{arith}
use lib.Dec.{eqb}
use lib.ListN.{length}
use Rattle.model.specs.declared.Ppu.{Ppu}
use Rattle.model.specs.Unit.{Memory, State, record_length, long}
use Rattle.model.specs.Record.{unit_of, record_ok}
use Rattle.model.specs.Calls.{made, unmade, load_call, Call, Outcome, outcome, refusal, request_ok, order, refusal_of, gate, done, on_lent, exported, saved_bytes, on_record, exported_call}
use Rattle.model.proofs.Record.{loaded, load_is}

gate_refused : (k : ℕ) (y : Outcome) (s : State) → (k ≡ 0 → ⊥) → outcome (refusal k) s ≡ gate k y s
gate_refused zero y s h = absurd (h refl)
gate_refused (suc k) y s h = refl

module _ (c : Call) (s : State) (k : ℕ) (hk : k ≡ refusal_of c s) where
  pub is_refused : (k ≡ 0 → ⊥) → outcome (refusal k) s ≡ on_lent c s
  unfolding on_lent
  is_refused h = gate_refused k (done c s) s h ∙ ap (λ (i : ℕ). gate i (done c s) s) hk

  pub is_done : k ≡ 0 → done c s ≡ on_lent c s
  unfolding on_lent
  is_done h = ap (λ (i : ℕ). gate i (done c s) s) (sym h ∙ hk)

-- 5, whatever else holds
pub is_unasked : (c : Call) (s : State) → request_ok c ≡ false → on_lent c s ≡ outcome (refusal 5) s
unfolding on_lent refusal_of order
is_unasked c s h = rw h

pub exported_unasked : (c : Call) (b : List ℕ) (m : Memory) → request_ok c ≡ false → exported_call c b m ≡ exported 5 b m
unfolding exported_call on_record saved_bytes
exported_unasked c b m h = rw h (go (long b record_length))
  where
    go : (x : Bool) → exported 5 (cond x b b) m ≡ exported 5 b m
    go true = refl
    go false = refl

-- done, or refused with whatever number
pub gated : (s : State) (c : Call) (P : Outcome → Type 0) → P (done c s) → ((k : ℕ) → P (outcome (refusal (suc k)) s)) → P (on_lent c s)
unfolding on_lent
gated s c P a b = go (refusal_of c s)
  where
    go : (k : ℕ) → P (gate k (done c s) s)
    go zero = a
    go (suc k) = b k

-- the first refusal is 0: the unit is well formed, and the lengths fit
pub order_formed : (k w s g d : Bool) → order k w s g d ≡ 0 → w ≡ true
unfolding order
order_formed true true s g d e = refl
order_formed true false s g d e = absurd (omega (arith, e))
order_formed false w s g d e = absurd (omega (arith, e))

pub order_sized : (k w s g d : Bool) → order k w s g d ≡ 0 → s ≡ true
unfolding order
order_sized true true true g d e = refl
order_sized true true false g d e = absurd (omega (arith, e))
order_sized true false s g d e = absurd (omega (arith, e))
order_sized false w s g d e = absurd (omega (arith, e))

pub and_none : (b : Bool) → b && false ≡ false
and_none true = refl
and_none false = refl

-- a record that is not refused, and what is loaded from it
module _ (l : List ℕ) (n : ℕ) (e : n ≡ (load_call l).answer.number) (h : n ≡ 0) where
  pub form_long : length l ≡ 16
  form_long = (loaded l (sym e ∙ h)).0

  pub is_made : load_call l ≡ made (unit_of l)
  is_made = load_is l form_long (loaded l (sym e ∙ h)).1

unmade_by : (a b : Bool) (u : Ppu) (n : ℕ) → n ≡ (cond a (cond b (made u) (unmade 3)) (unmade 2)).answer.number → (n ≡ 0 → ⊥) → cond a (cond b (made u) (unmade 3)) (unmade 2) ≡ unmade n
unmade_by true true u n e h = absurd (h e)
unmade_by true false u n e h = ap unmade (sym e)
unmade_by false b u n e h = ap unmade (sym e)

pub is_unmade : (l : List ℕ) (n : ℕ) → n ≡ (load_call l).answer.number → (n ≡ 0 → ⊥) → load_call l ≡ unmade n
unfolding load_call
is_unmade l n e h = unmade_by (eqb (length l) 16) (record_ok l) (unit_of l) n e h
