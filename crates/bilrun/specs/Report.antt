-- What `bilrun` prints for a table's bytes. Assumes nothing.
use Rattle.std.specs.Prelude.{List, [], ◌++◌, ℕ, ◌+◌, ◌*◌, replicate, Ok, Err}
use Rattle.base.specs.Refusals as Refusals
use Rattle.table.specs.Bytes.{header}
use Rattle.table.specs.Records.{most_variables}
use Rattle.typing.specs.Verdict.{check}
use Rattle.sealing.specs.Verdict.{seal_check}
use Rattle.memory.specs.Log.{entry_size}
use Rattle.running.specs.Start.{Start}
use Rattle.running.specs.Result.{Result, result, code_of, place_of}
use Rattle.report.specs.Lines.{answer_line, run_line, variable_lines, verdict_word, seal_word, longest_answer, longest_run, longest_variable}

-- "an empty log of 2,048 entries"
abbrev pub entries : ℕ
entries = 2048

-- "budget 10,000"
abbrev pub budget : ℕ
budget = 10000

-- how long the text is at most: of a run, of an accepted table, and the whole
abbrev pub longest_ran : ℕ
longest_ran = longest_run + longest_variable * most_variables

abbrev pub longest_accepted : ℕ
longest_accepted = longest_answer + longest_ran

abbrev pub longest_report : ℕ
longest_report = longest_answer + longest_accepted

-- "starts with all absent, an empty log .., next address 0"
unfoldable pub started : List ℕ → Start
unfolding header
started s =
    record {
      table = s;
      state = replicate (2 * (header s).variables) 0;
      log = replicate (entry_size * entries) 0;
      count = 0;
      next = 0;
      budget = budget;
    }

-- "`run CODE PLACE TICKS LOG NEXT` and for each state variable `var N` .."
unfoldable pub ran : List ℕ → Result → List ℕ
unfolding run_line variable_lines header code_of place_of
ran s r =
    run_line (code_of r.ending) (place_of r.ending) r.ticks r.count r.next ++ variable_lines s r.state (header s).variables

-- "if 0, `seal CODE PLACE`", and the run's lines
unfoldable pub accepted : List ℕ → List ℕ
unfolding answer_line seal_check ran result started
accepted s = answer_line seal_word (Refusals.code_of (seal_check s)) (Refusals.place_of (seal_check s)) ++ ran s (result (started s))

-- "It prints `verdict CODE PLACE`; if 0, .."
unfoldable pub report : List ℕ → List ℕ
unfolding answer_line check accepted
report s =
    answer_line verdict_word (Refusals.code_of (check s)) (Refusals.place_of (check s))
    ++ elim (check s) [ Ok accepted_table ↦ accepted s | Err refused ↦ [] ]
