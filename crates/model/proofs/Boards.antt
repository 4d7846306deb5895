-- A test that every board passes, computed once over the five wirings, with and without writable pattern memory.
use mathlib.Core.Path.{◌≡◌}
use mathlib.Core.Bool.{Bool, true, false, ◌&&◌}
use Rattle.model.specs.declared.Board.{Board}
use Rattle.model.specs.declared.Wiring.{Wiring}
use Rattle.model.specs.declared.Wiring.TheVariants.{Horizontal, Vertical, FirstPage, SecondPage, FourPages}
use Rattle.model.proofs.Tests.{and_both, all5}

abbrev pub on_wirings : (Wiring → Bool) → Bool
on_wirings f = f Horizontal && (f Vertical && (f FirstPage && (f SecondPage && f FourPages)))

pub on_wiring : (f : Wiring → Bool) → on_wirings f ≡ true → (w : Wiring) → f w ≡ true
on_wiring f h = go (all5 (f Horizontal) (f Vertical) (f FirstPage) (f SecondPage) (f FourPages) h)
  where
    go : (f Horizontal ≡ true) × (f Vertical ≡ true) × (f FirstPage ≡ true) × (f SecondPage ≡ true) × (f FourPages ≡ true) → (w : Wiring) → f w ≡ true
    go p Horizontal = p.0
    go p Vertical = p.1
    go p FirstPage = p.2
    go p SecondPage = p.3
    go p FourPages = p.4

-- with writable pattern memory, and without
abbrev both : (Board → Bool) → Wiring → Bool
both f w = f (record { wiring = w; writable = true }) && f (record { wiring = w; writable = false })

abbrev pub on_boards : (Board → Bool) → Bool
on_boards f = on_wirings (both f)

pub on_board : (f : Board → Bool) → on_boards f ≡ true → (d : Board) → f d ≡ true
on_board f h d = go d.writable (and_both (f (record { wiring = d.wiring; writable = true })) (f (record { wiring = d.wiring; writable = false })) (on_wiring (both f) h d.wiring))
  where
    go : (b : Bool) → (f (record { wiring = d.wiring; writable = true }) ≡ true) × (f (record { wiring = d.wiring; writable = false }) ≡ true)
        → f (record { wiring = d.wiring; writable = b }) ≡ true
    go true p = p.0
    go false p = p.1
