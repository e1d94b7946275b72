-- Paper 01's examples of runs, from a table's bytes to the numbers given back, as one table under a single statement. Assumes nothing.
use Rattle.std.specs.Prelude.{◌≡◌, refl, List, [], ◌∷◌, map, ℕ, zero, suc, replicate}
use Rattle.base.specs.Refusals as Answers
use Rattle.word.specs.Words.{signed, word_of}
use Rattle.table.specs.declared.Node.{Node}
use Rattle.table.proofs.Assembler.{assembled, immediate, memory, as_let}
use Rattle.table.proofs.Assembler.{var, word, load, store, binary, unary, cast, lets, unknown, ite, extract, concat}
use Rattle.table.proofs.Assembler.{move, jmp, cpuexn, special, while, if}
use Rattle.typing.specs.Verdict.{check}
use Rattle.sealing.specs.Verdict.{seal_check}
use Rattle.running.specs.Start.{Start}
use Rattle.running.specs.Result as Results
use Rattle.running.specs.Result.{result}

-- ------------------------------------------------------------------------------------------------
-- What a row tells of a start

-- the numbers of "`verdict CODE PLACE`", "`seal CODE PLACE`" and "`run CODE PLACE TICKS LOG NEXT`", and both buffers after the run
pub record Told : Type 0 where
  pub verdict : ℕ × ℕ
  pub seal : ℕ × ℕ
  pub run : ℕ × ℕ × ℕ × ℕ × ℕ
  pub state : List ℕ
  pub log : List ℕ

pub tell : Start → Told
tell s =
    let verdict = check s.table in
    let seal = seal_check s.table in
    let run = result s in
    record {
      verdict = (Answers.code_of verdict, Answers.place_of verdict);
      seal = (Answers.code_of seal, Answers.place_of seal);
      run = (Results.code_of run.ending, Results.place_of run.ending, run.ticks, run.count, run.next);
      state = run.state;
      log = run.log;
    }

pub record Row : Type 0 where
  pub start : Start
  pub told : Told

-- "an empty log of 2,048 entries"
empty : List ℕ
empty = replicate 8192 0

-- a start with a table, a state, an empty log of some room and a budget; "next address 0"
from : List ℕ → List ℕ → List ℕ → ℕ → Start
from table state log budget = record { table = table; state = state; log = log; count = 0; next = 0; budget = budget }

-- ------------------------------------------------------------------------------------------------
-- The tables: address width, variables, expressions, statements

-- x := 5, as paper 01 prints it
unfoldable pub paper : List ℕ
paper =
    0x01 ∷ 0x00 ∷ 0x08 ∷ 0x00 ∷ 0x01 ∷ 0x00 ∷ 0x00 ∷ 0x00 ∷ 0x20 ∷ 0x00 ∷ 0x00 ∷ 0x00 ∷ 0x01 ∷ 0x00 ∷ 0x00 ∷ 0x00
    ∷ 0x28 ∷ 0x00 ∷ 0x00 ∷ 0x00 ∷ 0x01 ∷ 0x00 ∷ 0x00 ∷ 0x00 ∷ 0x38 ∷ 0x00 ∷ 0x00 ∷ 0x00 ∷ 0x48 ∷ 0x00 ∷ 0x00 ∷ 0x00
    ∷ 0x01 ∷ 0x00 ∷ 0x08 ∷ 0x00 ∷ 0x00 ∷ 0x00 ∷ 0x00 ∷ 0x00 ∷ 0x02 ∷ 0x00 ∷ 0x08 ∷ 0x00 ∷ 0x00 ∷ 0x00 ∷ 0x00 ∷ 0x00
    ∷ 0x05 ∷ 0x00 ∷ 0x00 ∷ 0x00 ∷ 0x00 ∷ 0x00 ∷ 0x00 ∷ 0x00 ∷ 0x01 ∷ 0x00 ∷ 0x00 ∷ 0x00 ∷ 0x00 ∷ 0x00 ∷ 0x00 ∷ 0x00
    ∷ 0x00 ∷ 0x00 ∷ 0x00 ∷ 0x00 ∷ 0x00 ∷ 0x00 ∷ 0x00 ∷ 0x00 ∷ []

-- its records
pub paper_is_assembled : paper ≡ assembled 8 (immediate 8 ∷ []) (word 8 5 ∷ []) (move 0 0 ∷ [])
unfolding paper assembled
paper_is_assembled = refl

-- jmp 0x20, jmp 0x30
two_jumps : List ℕ
unfolding assembled
two_jumps = assembled 8 [] (word 8 0x20 ∷ word 8 0x30 ∷ []) (jmp 0 ∷ jmp 1 ∷ [])

-- while x neq 0 { x := x minus 1 }
countdown : List ℕ
unfolding assembled
countdown =
    assembled 8 (immediate 8 ∷ []) (var 0 ∷ word 8 0 ∷ binary 15 0 1 ∷ var 0 ∷ word 8 1 ∷ binary 2 3 4 ∷ []) (while 2 1 ∷ move 0 5 ∷ [])

-- n nots, one of the other, from expression i on
unfoldable pub nots : ℕ → ℕ → List Node
nots i zero = []
nots i (suc n) = unary 2 i ∷ nots (suc i) n

-- x := not .. not 5, of depth n + 1
unfoldable pub chained : ℕ → List ℕ
unfolding assembled nots
chained n = assembled 8 (immediate 8 ∷ []) (word 8 5 ∷ nots 0 n) (move 0 n ∷ [])

-- jmp x
jump_to : List ℕ
unfolding assembled
jump_to = assembled 8 (immediate 8 ∷ []) (var 0 ∷ []) (jmp 0 ∷ [])

-- m := m with 0x1234, big, at 0xff
top_store : List ℕ
unfolding assembled
top_store = assembled 8 (memory 8 ∷ []) (var 0 ∷ word 8 0xff ∷ word 16 0x1234 ∷ store 16 1 0 1 2 ∷ []) (move 0 3 ∷ [])

-- if 0 { x := 7 }, without an else; x := 9
skipped : List ℕ
unfolding assembled
skipped = assembled 8 (immediate 8 ∷ []) (word 1 0 ∷ word 8 7 ∷ word 8 9 ∷ []) (if 0 1 0 ∷ move 0 1 ∷ move 0 2 ∷ [])

-- while 1 { while 1 { special 0 } }
endless : List ℕ
unfolding assembled
endless = assembled 8 [] (word 1 1 ∷ word 1 1 ∷ []) (while 0 2 ∷ while 1 1 ∷ special 0 ∷ [])

-- while load 8 of (m with 1 at 0) at 0, its lowest bit { special 0 }
storing_guard : List ℕ
unfolding assembled
storing_guard =
    assembled 8 (memory 8 ∷ []) (var 0 ∷ word 8 0 ∷ word 8 1 ∷ store 8 0 0 1 2 ∷ word 8 0 ∷ load 8 0 3 4 ∷ cast 1 1 5 ∷ [])
    (while 6 1 ∷ special 0 ∷ [])

-- every op of expressions and statements, over a byte x, a let's byte l and a memory m
every_op : List ℕ
unfolding assembled
every_op =
    assembled
    8
    (immediate 8 ∷ as_let (immediate 8) ∷ memory 8 ∷ [])
    (var 2
    ∷ word 8 0x10
    ∷ word 8 0xf0
    ∷ unary 2 2  -- not 0xf0 is 0x0f
    ∷ store 8 0 0 1 3  -- at 0x10
    ∷ var 2
    ∷ word 8 0x10
    ∷ load 8 0 5 6  -- 0x0f again
    ∷ var 1
    ∷ word 8 1
    ∷ binary 1 8 9  -- l plus 1 is 0x10
    ∷ lets 1 7 10
    ∷ extract 7 4 11  -- 1, of 4 bits
    ∷ word 4 2
    ∷ concat 12 13  -- 0x12
    ∷ cast 3 16 14
    ∷ cast 1 8 15
    ∷ unknown 8
    ∷ word 1 1
    ∷ ite 18 16 17  -- 0x12
    ∷ word 1 0
    ∷ word 1 1
    ∷ word 8 0x40
    ∷ [])
    (move 2 4 ∷ move 0 19 ∷ while 20 1 ∷ cpuexn 1 ∷ if 21 1 1 ∷ special 2 ∷ cpuexn 3 ∷ jmp 22 ∷ [])

-- m := m with 5 at unknown; x := load of m at 0x10
store_nowhere : List ℕ
unfolding assembled
store_nowhere =
    assembled 8 (memory 8 ∷ immediate 8 ∷ [])
    (var 0 ∷ unknown 8 ∷ word 8 5 ∷ store 8 0 0 1 2 ∷ var 0 ∷ word 8 0x10 ∷ load 8 0 4 5 ∷ [])
    (move 0 3 ∷ move 1 6 ∷ [])

-- cpuexn 7, special 9
two_idle : List ℕ
unfolding assembled
two_idle = assembled 8 (immediate 8 ∷ memory 8 ∷ []) [] (cpuexn 7 ∷ special 9 ∷ [])

-- jmp 0x20, jmp x
jump_then_stop : List ℕ
unfolding assembled
jump_then_stop = assembled 8 (immediate 8 ∷ []) (word 8 0x20 ∷ var 0 ∷ []) (jmp 0 ∷ jmp 1 ∷ [])

-- ------------------------------------------------------------------------------------------------
-- The rows

pub rows : List Row
unfolding paper two_jumps countdown chained jump_to top_store skipped endless storing_guard every_op store_nowhere two_idle jump_then_stop from empty
rows =
    -- "it prints verdict 0 0, seal 0 0, run 0 0 1 0 0, var 0 word 5"
    record {
      start = from paper (0 ∷ 0 ∷ []) empty 10000;
      told = record { verdict = (0, 0); seal = (0, 0); run = (0, 0, 1, 0, 0); state = 1 ∷ 5 ∷ []; log = empty };
    }
    -- "jmp 0x20, jmp 0x30 ends at 0x30 with 2 ticks"
    ∷ record {
      start = from two_jumps [] empty 10000;
      told = record { verdict = (0, 0); seal = (0, 0); run = (0, 0, 2, 0, 0x30); state = []; log = empty };
    }
    -- "With x = 3, `while x neq 0 { x := x minus 1 }` is done with 7 ticks"
    ∷ record {
      start = from countdown (1 ∷ 3 ∷ []) empty 10000;
      told = record { verdict = (0, 0); seal = (0, 0); run = (0, 0, 7, 0, 0); state = 1 ∷ 0 ∷ []; log = empty };
    }
    -- "under budget 6 it stops with 35 at statement 0, x = 0"
    ∷ record {
      start = from countdown (1 ∷ 3 ∷ []) empty 6;
      told = record { verdict = (0, 0); seal = (0, 0); run = (35, 0, 6, 0, 0); state = 1 ∷ 0 ∷ []; log = empty };
    }
    -- "An expression of depth 64 passes, 65 doesn't."
    ∷ record {
      start = from (chained 63) (0 ∷ 0 ∷ []) empty 10000;
      told = record { verdict = (0, 0); seal = (0, 0); run = (0, 0, 1, 0, 0); state = 1 ∷ 250 ∷ []; log = empty };
    }
    ∷ record {
      start = from (chained 64) (0 ∷ 0 ∷ []) empty 10000;
      told = record { verdict = (9, 64); seal = (9, 64); run = (9, 64, 0, 0, 0); state = 0 ∷ 0 ∷ []; log = empty };
    }
    -- "32 guard unknown": x is absent
    ∷ record {
      start = from countdown (0 ∷ 0 ∷ []) empty 10000;
      told = record { verdict = (0, 0); seal = (0, 0); run = (32, 0, 1, 0, 0); state = 0 ∷ 0 ∷ []; log = empty };
    }
    -- "33 jump unknown": x is unknown
    ∷ record {
      start = from jump_to (2 ∷ 0 ∷ []) empty 10000;
      told = record { verdict = (0, 0); seal = (0, 0); run = (33, 0, 1, 0, 0); state = 2 ∷ 0 ∷ []; log = empty };
    }
    -- two bytes stored, in a log of two entries
    ∷ record {
      start = from top_store (0 ∷ 0 ∷ []) (replicate 8 0) 10000;
      told =
          record {
            verdict = (0, 0);
            seal = (0, 0);
            run = (0, 0, 1, 2, 0);
            state = 3 ∷ 2 ∷ [];
            log = 0 ∷ 8 ∷ 0xff ∷ 0x12 ∷ 1 ∷ 8 ∷ 0 ∷ 0x34 ∷ [];
          };
    }
    -- "34 a byte to append, log full": of one entry
    ∷ record {
      start = from top_store (0 ∷ 0 ∷ []) (replicate 4 0) 10000;
      told =
          record { verdict = (0, 0); seal = (0, 0); run = (34, 0, 1, 1, 0); state = 0 ∷ 0 ∷ []; log = 0 ∷ 8 ∷ 0xff ∷ 0x12 ∷ [] };
    }
    -- an if that is false and has no else is one tick
    ∷ record {
      start = from skipped (0 ∷ 0 ∷ []) empty 10000;
      told = record { verdict = (0, 0); seal = (0, 0); run = (0, 0, 2, 0, 0); state = 1 ∷ 9 ∷ []; log = empty };
    }
    -- "the innermost statement is named": the inner while's second test has no tick
    ∷ record {
      start = from endless [] empty 3;
      told = record { verdict = (0, 0); seal = (0, 0); run = (35, 1, 3, 0, 0); state = []; log = empty };
    }
    -- a stop while a guard is evaluated: at its third test the log is full
    ∷ record {
      start = from storing_guard (0 ∷ 0 ∷ []) (replicate 8 0) 10000;
      told =
          record {
            verdict = (0, 0);
            seal = (0, 0);
            run = (34, 0, 5, 2, 0);
            state = 0 ∷ 0 ∷ [];
            log = 0 ∷ 8 ∷ 0 ∷ 1 ∷ 0 ∷ 8 ∷ 0 ∷ 1 ∷ [];
          };
    }
    -- every op
    ∷ record {
      start = from every_op (replicate 6 0) (replicate 8 0) 10000;
      told =
          record {
            verdict = (0, 0);
            seal = (0, 0);
            run = (0, 0, 6, 1, 0x40);
            state = 1 ∷ 0x12 ∷ 0 ∷ 0 ∷ 3 ∷ 1 ∷ [];
            log = 0 ∷ 8 ∷ 0x10 ∷ 0x0f ∷ 0 ∷ 0 ∷ 0 ∷ 0 ∷ [];
          };
    }
    -- "A store to an unknown address appends nothing and gives unknown memory"; ".. or unknown memory makes it unknown": the load, of an address at which
    -- the memory had a byte before
    ∷ record {
      start =
          record {
            table = store_nowhere;
            state = 3 ∷ 1 ∷ 0 ∷ 0 ∷ [];
            log = 0 ∷ 8 ∷ 0x10 ∷ 0x11 ∷ 0 ∷ 0 ∷ 0 ∷ 0 ∷ [];
            count = 1;
            next = 0;
            budget = 10;
          };
      told =
          record {
            verdict = (0, 0);
            seal = (0, 0);
            run = (0, 0, 2, 1, 0);
            state = 2 ∷ 0 ∷ 2 ∷ 0 ∷ [];
            log = 0 ∷ 8 ∷ 0x10 ∷ 0x11 ∷ 0 ∷ 0 ∷ 0 ∷ 0 ∷ [];
          };
    }
    -- "Cpuexn and special change nothing.": a tick each, and state, log, log count and next address are as given
    ∷ record {
      start =
          record {
            table = two_idle;
            state = 1 ∷ 3 ∷ 3 ∷ 1 ∷ [];
            log = 0 ∷ 8 ∷ 0xff ∷ 0x12 ∷ 5 ∷ 6 ∷ 7 ∷ 8 ∷ [];
            count = 1;
            next = 0x21;
            budget = 10;
          };
      told =
          record {
            verdict = (0, 0);
            seal = (0, 0);
            run = (0, 0, 2, 1, 0x21);
            state = 1 ∷ 3 ∷ 3 ∷ 1 ∷ [];
            log = 0 ∷ 8 ∷ 0xff ∷ 0x12 ∷ 5 ∷ 6 ∷ 7 ∷ 8 ∷ [];
          };
    }
    -- "A jmp sets the next address and the rest of the block still runs": the second jmp stops with 33, and the first one's address is given back
    ∷ record {
      start = from jump_then_stop (0 ∷ 0 ∷ []) [] 10000;
      told = record { verdict = (0, 0); seal = (0, 0); run = (33, 1, 2, 0, 0x20); state = 0 ∷ 0 ∷ []; log = [] };
    }
    ∷ []

-- every start tells what its row says
pub table : map (λ (r : Row). tell r.start) rows ≡ map (λ (r : Row). r.told) rows
unfolding tell rows check seal_check result Results.code_of Results.place_of signed word_of
table = refl
