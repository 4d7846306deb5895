-- The ways of each function, for `search`.
use Prim.Native.Nat.{ℕ, ◌+◌, ◌<◌, ◌≤◌}
use mathlib.Core.Path.{◌≡◌, refl, sym, ap, ◌∙◌, subst}
use mathlib.Core.Bool.{Bool, true, false, true≢false, cond, not, ◌&&◌}
use mathlib.Core.Logic.{⊎_elim}
use mathlib.Core.List.{List}
use native.Mathlib.Omega.{arith}
use native.Mathlib.Numerals.{add-one}
use lib.Dec.{ltb, eqb}
use lib.ListN.{length, get_or, get_or-eq_default, replicate}
use borrow.Author.Count.{below_none, below_more}
use borrow.Author.Tests.{lt-ltb, le-ltb, ltb-true}
use Rattle.model.specs.declared.Ppu.{Ppu}
use Rattle.model.specs.Unit.{Cells, Memory, nametable_length, with_scanline, State, state, line_memory, last_line, bit, is_rendering, is_well_formed}
use Rattle.model.specs.Address.{table_of}
use Rattle.model.specs.Background.{background_at}
use Rattle.model.specs.Sprites.{overflows}
use Rattle.model.specs.Colours.{colour_at, numbers_of}
use Rattle.model.specs.Line.{tab, any_of, marked, hit_of, status_of, pixel_of, picture, drawn_unit, drawn_line, idle_line, vblank_line, pre_render_line, blank_unit, one_line, lines_run, meets_reason}
use Rattle.model.proofs.Kept.{well}
use Rattle.model.proofs.Good.{good_of, line_good}
use Rattle.model.proofs.Tests.{cond_both}
use Rattle.model.proofs.Tab.{length_tab, get_or_tab}
use Rattle.model.proofs.Scroll.{lt_or_ge}
use Rattle.model.proofs.Line.{line_board, pixel_small}
use Rattle.model.specs.Theorems.{meets_at}
use Rattle.model.proofs.Runs.{runs, run_one, meets_drawn, meets_undrawn}
use Rattle.memory_pairs.specs.Pairs.{always}
use Rattle.draw_colours.specs.Table.{Table, RunShades, Pixels, shown, from_table}
use Rattle.draw_colours.proofs.Cases.{show_is, drawn_colours, blank_colours, table_kept}
use Rattle.scanline.specs.Shown.{IsLine, IsRun, back_of, seen}
use Rattle.scanline.proofs.Laws.{zeros_at, back_1, back_2, drawn_off}

-- a line filled with zeros, in the words of std's fill
abbrev Filled : List ℕ → List ℕ → Type 0
Filled b b' = ((y : ℕ) → y ≡ 0 → y ≡ 0) → b' ≡ replicate (length b) 0

filled : (b b' : List ℕ) → Filled b b' → (p : ℕ) → get_or b' p 0 ≡ 0
filled b b' z p = rw (z (λ y e. e)) (zeros_at (length b) p)

-- the background as shown
module _ (u : Ppu) (l r n b' : List ℕ) (on : Bool) (eo : on ≡ bit 8 u.mask) (long : length b' ≡ 256) where
  pub shown_1 : (second low : Bool) (k : ℕ) (b : List ℕ) → on ≡ true → second ≡ bit 16 u.control → low ≡ bit 2 u.mask → k ≡ cond low 0 8
      → b ≡ tab (background_at u.board.wiring n (table_of second l r) u.v u.x) 256
      → ((p : ℕ) → get_or b' p 0 ≡ cond (ltb p k) 0 (get_or b p 0)) → b' ≡ tab (back_of u l r n) 256
  shown_1 second low k b t es el ek e c = back_1 u l r n k b b' (sym eo ∙ t) (ek ∙ rw el) long (e ∙ rw es) c

  pub shown_2 : (b : List ℕ) → on ≡ false → Filled b b' → b' ≡ tab (back_of u l r n) 256
  shown_2 b f z = back_2 u l r n b' (sym eo ∙ f) long (filled b b' z)

pub ruleset shown_cases = (shown_1, shown_2)

-- a well-formed unit's parts
module _ (u : Ppu) (h : is_well_formed u ≡ true) where
  pub v_small : u.v < 32768
  v_small = (good_of u h).v

  pub x_small : u.x < 8
  x_small = (good_of u h).x

  pub scanline_small : u.scanline < 262
  scanline_small = (good_of u h).scanline

pub draws_not : (u : Ppu) (d : Bool) → d ≡ (ltb u.scanline 240 && is_rendering u) → d ≡ false → ltb u.scanline 240 && is_rendering u ≡ false
draws_not u d e f = sym e ∙ f

and_parts : (a b : Bool) → a && b ≡ true → (a ≡ true) × (b ≡ true)
and_parts true b h = (refl, h)
and_parts false b h = absurd (true≢false (sym h))

-- memory, by what stays over a run and by the two buffers
abbrev pub lent : Cells → List ℕ → List ℕ → Memory
lent k b f = record { cells = k; line = b; colours = f }

-- a picture's pixel numbers
pub picture_pixels : (u : Ppu) (l r n o b : List ℕ) → b ≡ picture u l r n o → Pixels b
unfolding picture
picture_pixels u l r n o b e =
    let long : length b ≡ 256 = ap length e ∙ length_tab (pixel_of u l r n o) 256 in
    record {
      small = λ q.
          ⊎_elim
          (λ (lt : q < 256). let z : get_or b q 0 ≡ pixel_of u l r n o q = rw e (get_or_tab (pixel_of u l r n o) 256 q lt) in omega (arith, z, pixel_small u l r n o q))
          (λ (ge : 256 ≤ q). let z : get_or b q 0 ≡ 0 = get_or-eq_default b 0 (omega (arith, long)) in omega (arith, z))
          (lt_or_ge q 256);
    }

-- what draw finds of it, by the parts of the unit that it takes
abbrev pub seen_picture : Ppu → Cells → List ℕ
seen_picture u k = picture (seen u.control u.mask u.v u.x u.scanline u.board) k.left k.right k.nametables k.oam

abbrev pub seen_hit : Ppu → Cells → Bool
seen_hit u k = any_of (hit_of (seen u.control u.mask u.v u.x u.scanline u.board) k.left k.right k.nametables k.oam) 256

-- a line that is drawn
module _ (u : Ppu) (d : Bool) (ed : d ≡ (ltb u.scanline 240 && is_rendering u)) (t : d ≡ true) where
  pub drawn_low : u.scanline < 240
  drawn_low = ltb-true u.scanline 240 (and_parts (ltb u.scanline 240) (is_rendering u) (sym ed ∙ t)).0

  pub drawn_shown : is_rendering u ≡ true
  drawn_shown = (and_parts (ltb u.scanline 240) (is_rendering u) (sym ed ∙ t)).1

  pub drawn_seen : is_rendering (seen u.control u.mask u.v u.x u.scanline u.board) ≡ true
  unfolding is_rendering
  drawn_seen = drawn_shown

  -- it is run, and the reason is met as the code found
  pub line_1 : (k : Cells) (b b' f f' : List ℕ) (why : ℕ) (hit over m : Bool) (x : Ppu) → f' ≡ tab (shown u.mask k.palette b') 256
      → b' ≡ seen_picture u k → hit ≡ seen_hit u k → over ≡ overflows u.control k.oam u.scanline
      → ((l r n o : List ℕ) → hit ≡ any_of (hit_of u l r n o) 256 → over ≡ overflows u.control o u.scanline → x ≡ drawn_unit u l r n o)
      → m ≡ (eqb why 2 && (not (bit 64 u.status) && hit)) → IsLine why (state u (lent k b f)) (state x (lent k b' f')) m
  unfolding one_line drawn_line picture pixel_of is_rendering hit_of
  line_1 k b b' f f' why hit over m x ef ep eh eo ex em =
      let long : length b' ≡ 256 = ap length ep ∙ length_tab _ 256 in
      record {
        after = rw (drawn_colours u k.palette b' f' drawn_shown long ef, ep, ex k.left k.right k.nametables k.oam eh eo, lt-ltb u.scanline 240 drawn_low);
        reason = em ∙ rw eh (sym (meets_drawn (state u (lent k b f)) why drawn_low drawn_shown));
      }

  -- the same by a run's table
  pub line_2 : (k : Cells) (b b' f f' t : List ℕ) (why : ℕ) (hit over m : Bool) (x : Ppu) → RunShades u k.palette t
      → numbers_of f' ≡ tab (from_table t b') 256 → b' ≡ seen_picture u k → hit ≡ seen_hit u k → over ≡ overflows u.control k.oam u.scanline
      → ((l r n o : List ℕ) → hit ≡ any_of (hit_of u l r n o) 256 → over ≡ overflows u.control o u.scanline → x ≡ drawn_unit u l r n o)
      → m ≡ (eqb why 2 && (not (bit 64 u.status) && hit)) → IsLine why (state u (lent k b (numbers_of f))) (state x (lent k b' (numbers_of f'))) m
  line_2 k b b' f f' t why hit over m x h ef ep eh eo ex em =
      line_1 k b b' (numbers_of f) (numbers_of f') why hit over m x
      (show_is u.mask k.palette t b' (numbers_of f') (h.on drawn_shown) (picture_pixels _ _ _ _ _ b' ep) ef) ep eh eo ex em

  pub its_table : (p t : List ℕ) → RunShades u p t → Table t
  its_table p t h = (h.on drawn_shown).table

-- a line that is not drawn
pub undrawn_off : (u : Ppu) → ltb u.scanline 240 && is_rendering u ≡ false → u.scanline < 240 → is_rendering u ≡ false
undrawn_off u h k = sym (ap (λ (z : Bool). z && is_rendering u) (lt-ltb u.scanline 240 k)) ∙ h

module _ (u : Ppu) (h : ltb u.scanline 240 && is_rendering u ≡ false) where
  off : u.scanline < 240 → is_rendering u ≡ false
  off = undrawn_off u h

  pub unit_1 : (x : Ppu) → u.scanline ≤ 239 → x ≡ with_scanline u (u.scanline + 1) → (l r n o p b f : List ℕ) → x ≡ (one_line (state u (line_memory l r n o p b f))).unit
  unfolding one_line drawn_line drawn_unit status_of marked
  unit_1 x k d l r n o p b f = let lt : u.scanline < 240 = omega arith in rw (d, lt-ltb u.scanline 240 lt, off lt)

  pub unit_2 : (x : Ppu) → 239 < u.scanline → x ≡ blank_unit u → (l r n o p b f : List ℕ) → x ≡ (one_line (state u (line_memory l r n o p b f))).unit
  unfolding one_line
  unit_2 x k e l r n o p b f = rw (e, le-ltb u.scanline 240 (omega arith))

  module _ (p b b' f f' : List ℕ) where
    pub buffers_1 : u.scanline < 240 → length b' ≡ 256 → Filled b b' → f' ≡ tab (always (colour_at u p 0)) 256
        → (l r n o : List ℕ) → line_memory l r n o p b' f' ≡ (one_line (state u (line_memory l r n o p b f))).memory
    unfolding one_line drawn_line
    buffers_1 k long z g l r n o = rw (blank_colours u p b' f' long (λ q lt. filled b b' z q) g, drawn_off u l r n o b' (off k) long (filled b b' z), lt-ltb u.scanline 240 k)

    pub buffers_2 : 240 ≤ u.scanline → b' ≡ b → f' ≡ f → (l r n o : List ℕ) → line_memory l r n o p b' f' ≡ (one_line (state u (line_memory l r n o p b f))).memory
    unfolding one_line
    buffers_2 k d g l r n o = rw (d, g, le-ltb u.scanline 240 k)

pub ruleset unit_cases = (scanline_small, unit_1, unit_2)

pub ruleset buffers_cases = (undrawn_off, buffers_1, buffers_2)

pub undrawn_is : (u x : Ppu) (p b b' f f' : List ℕ) → ((l r n o p b f : List ℕ) → x ≡ (one_line (state u (line_memory l r n o p b f))).unit)
    → ((l r n o : List ℕ) → line_memory l r n o p b' f' ≡ (one_line (state u (line_memory l r n o p b f))).memory)
    → (l r n o : List ℕ) → state x (line_memory l r n o p b' f') ≡ one_line (state u (line_memory l r n o p b f))
undrawn_is u x p b b' f f' e g l r n o = λ i. state (e l r n o p b f i) (g l r n o i)

pub line_3 : (u : Ppu) (k : Cells) (b b' f f' : List ℕ) (why : ℕ) (d m : Bool) (x : Ppu) → d ≡ (ltb u.scanline 240 && is_rendering u) → d ≡ false
    → ((l r n o : List ℕ) → state x (line_memory l r n o k.palette b' f') ≡ one_line (state u (line_memory l r n o k.palette b f)))
    → m ≡ (eqb why 1 && (bit 128 u.control && eqb u.scanline 241)) → IsLine why (state u (lent k b f)) (state x (lent k b' f')) m
line_3 u k b b' f f' why d m x ed e ex em =
    record { after = ex k.left k.right k.nametables k.oam; reason = em ∙ sym (meets_undrawn (state u (lent k b f)) why (sym ed ∙ e)) }

-- A RUN OF ONE LINE
pub one_run : (why : ℕ) (s t : State) (m : Bool) → IsLine why s t m → IsRun why 1 s 1 m t
unfolding lines_run
one_run why s t m h =
    record { count = sym (run_one why s).0; reason = h.reason ∙ sym (run_one why s).1; after = h.after ∙ ap (λ (k : ℕ). lines_run k s) (sym (run_one why s).0) }

pub ruleset line_cases = (picture_pixels, v_small, x_small, drawn_low, drawn_shown, drawn_seen, draws_not, its_table, one_run, line_1, line_2, line_3)

-- a line keeps the mask
line_mask : (s : State) → (one_line s).unit.mask ≡ s.unit.mask
unfolding one_line drawn_line drawn_unit blank_unit vblank_line pre_render_line idle_line
line_mask s =
    cond_both (λ (t : State). t.unit.mask ≡ s.unit.mask) (ltb s.unit.scanline 240) (drawn_line s) (state (blank_unit s.unit) s.memory) refl
    (cond_both (λ (u : Ppu). u.mask ≡ s.unit.mask) (eqb s.unit.scanline 241) (vblank_line s.unit) _ refl
    (cond_both (λ (u : Ppu). u.mask ≡ s.unit.mask) (eqb s.unit.scanline (last_line s.unit.board)) (pre_render_line s.unit) (idle_line s.unit) refl refl))

-- A RUN OF MORE, from s₀: after i lines, none of which met the reason. The colours are bytes
pub record Running (why : ℕ) (s₀ : State) (k : Cells) (u : Ppu) (b f : List ℕ) (i : ℕ) : Type 0 where
  pub formed : is_well_formed u ≡ true
  pub mask : u.mask ≡ s₀.unit.mask
  pub long : length k.nametables ≡ nametable_length u.board
  pub so_far : state u (lent k b (numbers_of f)) ≡ lines_run i s₀
  pub unmet : (j : ℕ) → j < i → meets_at why j s₀ ≡ false

module _ (why : ℕ) (s₀ : State) (k : Cells) (u : Ppu) (b f : List ℕ) where
  pub run_start : s₀ ≡ state u (lent k b (numbers_of f)) → is_well_formed u ≡ true → length k.nametables ≡ nametable_length u.board → Running why s₀ k u b f 0
  unfolding lines_run
  run_start e h n = record { formed = h; mask = ap (λ (s : State). s.unit.mask) (sym e); long = n; so_far = sym e; unmet = below_none _ }

  module _ (i : ℕ) (inv : Running why s₀ k u b f i) where
    -- it is done
    pub run_done_lem : (most : ℕ) → i ≤ most → most ≤ i → IsRun why most s₀ most false (state u (lent k b (numbers_of f)))
    run_done_lem most g h =
        let e : i ≡ most = omega arith in
        let all : Running why s₀ k u b f most = subst (Running why s₀ k u b f) e inv in
        let r = (runs s₀ most).met_none why all.unmet in
        record { count = sym r.0; reason = sym r.1; after = all.so_far ∙ ap (λ (j : ℕ). lines_run j s₀) (sym r.0) }

    -- its table stays right
    pub run_table : (p t : List ℕ) → RunShades s₀.unit p t → RunShades u p t
    run_table p t h = record { on = λ e. table_kept s₀.unit p t u h inv.mask e }

    -- a line more
    module _ (u' : Ppu) (b' f' : List ℕ) (m : Bool) (l : IsLine why (state u (lent k b (numbers_of f))) (state u' (lent k b' (numbers_of f'))) m) where
      after : state u' (lent k b' (numbers_of f')) ≡ lines_run (i + 1) s₀
      unfolding lines_run
      after = l.after ∙ ap one_line inv.so_far ∙ ap (λ (j : ℕ). lines_run j s₀) (sym (add-one i))

      at : meets_at why i s₀ ≡ m
      at = sym (l.reason ∙ ap (λ (t : State). meets_reason why t.unit (one_line t).unit) inv.so_far)

      pub run_again : m ≡ false → Running why s₀ k u' b' f' (i + 1)
      run_again off =
          let s : State = state u (lent k b (numbers_of f)) in
          let d : u' ≡ (one_line s).unit = ap (λ (t : State). t.unit) l.after in
          record {
            formed = ap is_well_formed d ∙ well (one_line s).unit (line_good s (good_of u inv.formed));
            mask = ap (λ (w : Ppu). w.mask) d ∙ line_mask s ∙ inv.mask;
            long = inv.long ∙ sym (ap nametable_length (ap (λ (w : Ppu). w.board) d ∙ line_board s));
            so_far = after;
            unmet = below_more _ i inv.unmet (at ∙ off);
          }

      pub run_met : (most : ℕ) → m ≡ true → i < most → IsRun why most s₀ (i + 1) m (state u' (lent k b' (numbers_of f')))
      run_met most on lt =
          let r = (runs s₀ most).met_first why i lt inv.unmet (at ∙ on) in
          record { count = sym r.0; reason = on ∙ sym r.1; after = after ∙ ap (λ (j : ℕ). lines_run j s₀) (sym r.0) }
