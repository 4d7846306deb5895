-- The ways of each function, for `search`.
use Prim.Native.Nat.{ℕ}
use mathlib.Core.Path.{◌≡◌, refl, ◌∙◌}
use mathlib.Core.List.{List}
use Rattle.model.specs.declared.Ppu.{Ppu}
use Rattle.model.specs.declared.Access.{Access}
use Rattle.model.specs.declared.Place.{Place}
use Rattle.model.specs.declared.Place.TheVariants.{Pattern, Nametable, Palette}
use Rattle.model.specs.Unit.{with_cells, state, access_cells, access_memory, video}
use Rattle.model.specs.Address.{with_oam, byte_at, place_of}
use Rattle.model.specs.Ports.{buffer_byte, read_data, read_unit, wrote_unit, wrote_video, wrote_oam_bytes, wrote_memory}
use Rattle.model.specs.Calls.{access, done_answer, outcome, access_outcome, write_done}
use Rattle.model.proofs.Ports.{video_oam}

-- the buffer sees no OAM
place_lent : (p : Place) (l r n o q : List ℕ) → byte_at p (video l r n q) ≡ byte_at p (access_cells l r n o q)
unfolding byte_at
place_lent (Pattern right at) l r n o q = refl
place_lent (Nametable at) l r n o q = refl
place_lent (Palette at) l r n o q = refl

pub unit_lent : (k b : ℕ) (u : Ppu) (l r n o q : List ℕ) → read_unit k u b (access_cells l r n o q) ≡ read_unit k u b (video l r n q)
unfolding read_unit read_data buffer_byte
unit_lent k b u l r n o q = rw (place_lent (place_of u.board u.v) l r n o q) refl

-- an accepted write, from what its steps left
memory_1 : (u : Ppu) (k b : ℕ) (l r n o p l' r' n' o' p' : List ℕ)
    → video l' r' n' p' ≡ wrote_video k u b (video l r n p) → o' ≡ wrote_oam_bytes k u b o
    → access_cells l' r' n' o' p' ≡ wrote_memory k u b (access_cells l r n o p)
unfolding wrote_memory
memory_1 u k b l r n o p l' r' n' o' p' hm ho = (λ i. with_oam (hm i) (ho i)) ∙ video_oam k u b (video l r n p) o (wrote_oam_bytes k u b o)

pub write_1 : (u : Ppu) (k b : ℕ) (l₀ r₀ n₀ o₀ p₀ l r n o p : List ℕ) (x : Access)
    → video l r n p ≡ wrote_video k u b (video l₀ r₀ n₀ p₀) → o ≡ wrote_oam_bytes k u b o₀ → x ≡ access (done_answer 0 (wrote_unit k u b)) (wrote_unit k u b)
    → access_outcome x l r n o p ≡ write_done k b (state u (access_memory l₀ r₀ n₀ o₀ p₀))
unfolding write_done
write_1 u k b l₀ r₀ n₀ o₀ p₀ l r n o p x hv ho e =
    let hm : access_cells l r n o p ≡ wrote_memory k u b (access_cells l₀ r₀ n₀ o₀ p₀) = memory_1 u k b l₀ r₀ n₀ o₀ p₀ l r n o p hv ho in
    λ i. outcome (e i).answer (state (e i).unit (with_cells (access_memory l₀ r₀ n₀ o₀ p₀) (hm i)))
