-- Document 02, request 10: the text of a screen. The rows of a nametable page by a table of characters, and the page of given rows.
use Rattle.std.specs.Prelude.{Bool, false, cond, not, ◌&&◌, List, [], ◌∷◌, ◌++◌, ℕ, suc, eqb, ltb, length, get_or, drop}
use Rattle.model.specs.declared.TextAnswer.{TextAnswer}
use Rattle.model.specs.Unit.{long}
use Rattle.model.specs.Sprites.{count_of}
use Rattle.model.specs.Line.{tab, any_of}
use Rattle.model.specs.Calls.{answer, packed}

-- what is lent: one nametable page, its 960 tile bytes and 64 attribute bytes; a table that gives each tile a character; 30 records of 32
-- bytes, no header, one for each row
abbrev pub nametable_page : ℕ
nametable_page = 1024

abbrev pub table_length : ℕ
table_length = 256

abbrev pub rows_length : ℕ
rows_length = 960

-- a tile without a character: its table byte is 0
abbrev pub is_bare : List ℕ → ℕ → Bool
is_bare table tile = eqb (get_or table tile 0) 0

-- the character of a tile; one without a character becomes a space
unfoldable pub character_of : List ℕ → ℕ → ℕ
character_of table tile = cond (is_bare table tile) 32 (get_or table tile 0)

-- the rows of a page: the character of each tile byte
unfoldable pub rows_of : List ℕ → List ℕ → List ℕ
rows_of table page = tab (λ (k : ℕ). character_of table (get_or page k 0)) rows_length

-- and how many of the tile bytes became a space so
unfoldable pub bare_count : List ℕ → List ℕ → ℕ
bare_count table page = count_of (λ (k : ℕ). is_bare table (get_or page k 0)) rows_length

-- THE OTHER WAY. The lowest tile with a character; the table's length where none has it
unfoldable pub lowest_tile : ℕ → List ℕ → ℕ
lowest_tile c [] = 0
lowest_tile c (x ∷ xs) = cond (eqb x c) 0 (suc (lowest_tile c xs))

-- a character that is not byte 0 and stands in the table
unfoldable pub is_known : List ℕ → ℕ → Bool
is_known table c = not (eqb c 0) && ltb (lowest_tile c table) (length table)

-- some character given is byte 0 or isn't in the table
unfoldable pub some_unknown : List ℕ → List ℕ → Bool
some_unknown rows table = any_of (λ (k : ℕ). not (is_known table (get_or rows k 0))) rows_length

-- the page of given rows: its 960 tile bytes become the lowest tile with each character; the 64 attribute bytes stay
unfoldable pub page_of : List ℕ → List ℕ → List ℕ → List ℕ
page_of rows table page = tab (λ (k : ℕ). lowest_tile (get_or rows k 0) table) rows_length ++ drop rows_length page

-- THE CALLS. What they are lent has its lengths
unfoldable pub text_long : List ℕ → List ℕ → List ℕ → Bool
text_long page table rows = long page nametable_page && (long table table_length && long rows rows_length)

-- what a call leaves: its answer, and the bytes that it was lent to write
pub record Written : Type 0 where
  pub answer : TextAnswer
  pub bytes : List ℕ

abbrev pub text_answer : ℕ → ℕ → TextAnswer
text_answer n k = record { number = n; count = k }

abbrev pub written : TextAnswer → List ℕ → Written
written a l = record { answer = a; bytes = l }

-- page and table to rows: 2 by length
unfoldable pub text_call : List ℕ → List ℕ → List ℕ → Written
text_call page table rows =
    cond (text_long page table rows) (written (text_answer 0 (bare_count table page)) (rows_of table page)) (written (text_answer 2 0) rows)

-- rows and table to a page: 2 by length, then 8
unfoldable pub page_call : List ℕ → List ℕ → List ℕ → Written
page_call rows table page =
    cond (text_long page table rows)
    (cond (some_unknown rows table) (written (text_answer 8 0) page) (written (text_answer 0 0) (page_of rows table page)))
    (written (text_answer 2 0) page)

-- for C the answer is packed as every other: a number and a count, byte and NMI level 0
abbrev pub packed_text : TextAnswer → ℕ
packed_text a = packed (answer a.number 0 a.count false)

pub record WrittenForC : Type 0 where
  pub result : ℕ
  pub bytes : List ℕ

abbrev pub written_for_c : ℕ → List ℕ → WrittenForC
written_for_c r l = record { result = r; bytes = l }

abbrev pub exported_text : Written → WrittenForC
exported_text w = written_for_c (packed_text w.answer) w.bytes
