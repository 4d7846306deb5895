-- A two-byte number among bytes.
use Rattle.std.specs.Prelude.{List, ℕ, ◌+◌, ◌*◌, ◌/◌, ◌%◌, get_or, set}

-- number k of a list of bytes
unfoldable pub pair_at : List ℕ → ℕ → ℕ
pair_at l k = get_or l (2 * k) 0 + get_or l (2 * k + 1) 0 * 256

-- the bytes after number n is stored as number k
unfoldable pub stored_pair : List ℕ → ℕ → ℕ → List ℕ
stored_pair l k n = set (set l (2 * k) (n % 256)) (2 * k + 1) (n / 256)

-- one number at every place
unfoldable pub always : ℕ → ℕ → ℕ
always n k = n

-- the number at place k of a list
unfoldable pub number_at : List ℕ → ℕ → ℕ
number_at l k = get_or l k 0
