-- Which runs begin with cleared line buffers.
use Rattle.std.specs.Prelude.{Bool, false, cond, not, ◌&&◌, List, ℕ, ◌*◌, ltb, eqb}
use Rattle.model.specs.declared.Ppu.{Ppu}
use Rattle.model.specs.Unit.{line_length, colours_length, record_length, long}
use Rattle.model.specs.Record.{at}
use Rattle.model.specs.Calls.{access_sizes, plain_refusal}

-- a run of n lines begins with one of lines 0 to 239, which writes both buffers whole
unfoldable pub begins_shown : Ppu → ℕ → Bool
begins_shown u n = ltb u.scanline 240 && not (eqb n 0)

-- the same by the bytes of a record that is 16 long, the board not writable; whether it is well formed is not asked
unfoldable pub record_begins_shown : List ℕ → ℕ → Bool
record_begins_shown l n = long l record_length && (ltb (at l 15) 8 && (eqb (at l 13) 0 && (ltb (at l 12) 240 && not (eqb n 0))))

-- any other clears them, if it is accepted; by the lengths of what it is lent, the colours as bytes
unfoldable pub clears : Ppu → ℕ → ℕ → ℕ → ℕ → ℕ → ℕ → ℕ → ℕ → Bool
clears u n l r t o p b f =
    let sized : Bool = access_sizes u.board l r t o p && (eqb b line_length && eqb f (2 * colours_length)) in
    cond (begins_shown u n) false (eqb (plain_refusal sized u) 0)
