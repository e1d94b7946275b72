-- What a run takes, and accepted starts: refusals 16 to 18. Assumes nothing.
use Rattle.std.specs.Prelude.{Bool, true, ◌&&◌, ◌||◌, List, [], ◌∷◌, ℕ, suc, ◌+◌, ◌*◌, ◌%◌, ◌^◌, leb, ltb, eqb, length, get_or}
use Rattle.base.specs.declared.codes.Code.TheVariants as Codes
use Rattle.base.specs.Choice.{within}
use Rattle.base.specs.Refusals.{Rule}
use Rattle.table.specs.declared.Variable.{Variable}
use Rattle.table.specs.Bytes.{header, variable}
use Rattle.memory.specs.Log.{Log, entry_size, entries, newest_ok, width_at, room_in}

pub record Start : Type 0 where
  pub table : List ℕ  -- bytes
  pub state : List ℕ  -- "two 64-bit numbers a variable"
  pub log : List ℕ  -- four 64-bit numbers an entry
  pub count : ℕ  -- the entries that it has
  pub next : ℕ  -- next address
  pub budget : ℕ

-- "over 65,536 entries"
abbrev pub most_entries : ℕ
most_entries = 65536

abbrev pub room_of : Start → ℕ
room_of s = room_in s.log

abbrev pub log_of : Start → Log
log_of s = entries s.log s.count

-- 16: "state not 2V numbers; log not a multiple of 4 numbers or over 65,536 entries; log count over its room; next address not
-- below 2^A", at places 0 to 3
unfoldable pub numbers_ok : Start → List Bool
unfolding header
numbers_ok s =
    eqb (length s.state) (2 * (header s.table).variables)
    ∷ (eqb (length s.log % entry_size) 0 && leb (room_of s) most_entries)
    ∷ leb s.count (room_of s)
    ∷ ltb s.next (2 ^ (header s.table).width)
    ∷ []

-- 18: "0,0 absent; 1,word that fits, for an immediate; 2,0 unknown; 3,head, for a memory: 1 to the log count, an entry of its
-- address width. Let variables are absent at every start, end and stop." Of the end and a stop: `again` (demands).
unfoldable pub pair_ok : Log → Variable → ℕ → ℕ → Bool
unfolding width_at
pair_ok L v kind n =
    (eqb kind 0 && eqb n 0)
    || (eqb v.role 0
    && ((eqb kind 1 && (eqb v.kind 1 && ltb n (2 ^ v.width)))
    || ((eqb kind 2 && eqb n 0)
    || (eqb kind 3 && (eqb v.kind 2 && (within 1 (length L) n && eqb (width_at L n) v.addressWidth))))))

-- ------------------------------------------------------------------------------------------------
-- The rules

abbrev pub numbers_rule : Start → Rule
numbers_rule s = record { code = Codes.Start; places = 4; holds = λ i. get_or (numbers_ok s) i true }

-- 17: "an entry within the count breaks the log's rules"; entries count from 1
abbrev pub entry_rule : List ℕ → ℕ → Rule
entry_rule log count = record { code = Codes.Entry; places = suc count; holds = λ n. newest_ok (entries log n) }

-- each variable of a table, by a state and a log
abbrev pub pair_rule : List ℕ → List ℕ → Log → Rule
pair_rule table state L =
    record {
      code = Codes.Pair;
      places = (header table).variables;
      holds = λ x. pair_ok L (variable table x) (get_or state (2 * x) 0) (get_or state (2 * x + 1) 0);
    }

unfoldable pub start_rules : Start → List Rule
unfolding numbers_ok newest_ok pair_ok entries variable header
start_rules s = numbers_rule s ∷ entry_rule s.log s.count ∷ pair_rule s.table s.state (log_of s) ∷ []
