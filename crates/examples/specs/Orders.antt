-- Paper 01's orders of evaluation, told by the entries that operands append, as one table under a single statement. Assumes nothing.
use Rattle.std.specs.Prelude.{◌≡◌, refl, List, [], ◌∷◌, ◌++◌, map, ℕ, ◌+◌, replicate}
use Rattle.word.specs.Words.{signed, word_of}
use Rattle.table.specs.declared.Variable.{Variable}
use Rattle.table.specs.declared.Node.{Node}
use Rattle.table.proofs.Assembler.{assembled, immediate, memory, as_let}
use Rattle.table.proofs.Assembler.{var, word, load, store, binary, cast, lets, unknown, ite, concat, move}
use Rattle.running.specs.Start.{Start}
use Rattle.running.specs.Result as Results
use Rattle.running.specs.Result.{result}

-- ------------------------------------------------------------------------------------------------
-- What a row tells of a start: the run's code, and both buffers after it

pub record Told : Type 0 where
  pub code : ℕ
  pub state : List ℕ
  pub log : List ℕ

pub tell : Start → Told
tell s = let r = result s in record { code = Results.code_of r.ending; state = r.state; log = r.log }

pub record Row : Type 0 where
  pub start : Start
  pub told : Told

-- done: both buffers
done : List ℕ → List ℕ → Told
done state log = record { code = 0; state = state; log = log }

-- ------------------------------------------------------------------------------------------------
-- Operands that append: each stands in a field a, b or c of its op, and appends one entry, of which address and byte are 0xa, 0xb or 0xc

-- a memory m, a byte x, a let's byte l and 16 bits y
variables : List Variable
variables = memory 8 ∷ immediate 8 ∷ as_let (immediate 8) ∷ immediate 16 ∷ []

-- m with n at n: four expressions from i on, of which i + 3 is the memory; m is absent, so that the entry has no previous one
storing : ℕ → ℕ → List Node
storing i n = var 0 ∷ word 8 n ∷ word 8 n ∷ store 8 0 i (i + 1) (i + 2) ∷ []

-- the byte n, loaded from m with n at n: six expressions from i on, of which i + 5 is the byte
loaded : ℕ → ℕ → List Node
unfolding storing
loaded i n = storing i n ++ (word 8 n ∷ load 8 0 (i + 3) (i + 4) ∷ [])

-- expression e of some, moved to variable x, from all absent and an empty log with room for so many entries
moving : List Node → ℕ → ℕ → ℕ → Start
unfolding assembled variables
moving expressions e x room =
    record {
      table = assembled 8 variables expressions (move x e ∷ []);
      state = replicate 8 0;
      log = replicate room 0;
      count = 0;
      next = 0;
      budget = 10;
    }

-- ------------------------------------------------------------------------------------------------
-- The rows. Each entry of the log is a previous entry, an address width, an address and a byte.

pub rows : List Row
unfolding storing loaded moving done
rows =
    -- "load address then memory": b then a; the memory has no byte at 0xb
    record {
      start = moving (storing 0 0xa ++ (loaded 4 0xb ++ (load 8 0 3 9 ∷ []))) 10 1 8;
      told = done (0 ∷ 0 ∷ 2 ∷ 0 ∷ 0 ∷ 0 ∷ 0 ∷ 0 ∷ []) (0 ∷ 8 ∷ 0xb ∷ 0xb ∷ 0 ∷ 8 ∷ 0xa ∷ 0xa ∷ []);
    }
    -- "store value, address, memory": c, b, a, then the store's own entry, on the memory's
    ∷ record {
      start = moving (storing 0 0xa ++ (loaded 4 0xb ++ (loaded 10 0xc ++ (store 8 0 3 9 15 ∷ [])))) 16 0 16;
      told =
          done (3 ∷ 4 ∷ 0 ∷ 0 ∷ 0 ∷ 0 ∷ 0 ∷ 0 ∷ [])
          (0 ∷ 8 ∷ 0xc ∷ 0xc ∷ 0 ∷ 8 ∷ 0xb ∷ 0xb ∷ 0 ∷ 8 ∷ 0xa ∷ 0xa ∷ 3 ∷ 8 ∷ 0xb ∷ 0xc ∷ []);
    }
    -- "binary and concat left then right": a then b; 0xa minus 0xb is 0xff
    ∷ record {
      start = moving (loaded 0 0xa ++ (loaded 6 0xb ++ (binary 2 5 11 ∷ []))) 12 1 8;
      told = done (0 ∷ 0 ∷ 1 ∷ 0xff ∷ 0 ∷ 0 ∷ 0 ∷ 0 ∷ []) (0 ∷ 8 ∷ 0xa ∷ 0xa ∷ 0 ∷ 8 ∷ 0xb ∷ 0xb ∷ []);
    }
    -- "binary and concat left then right": a then b
    ∷ record {
      start = moving (loaded 0 0xa ++ (loaded 6 0xb ++ (concat 5 11 ∷ []))) 12 3 8;
      told = done (0 ∷ 0 ∷ 0 ∷ 0 ∷ 0 ∷ 0 ∷ 1 ∷ 0xa0b ∷ []) (0 ∷ 8 ∷ 0xa ∷ 0xa ∷ 0 ∷ 8 ∷ 0xb ∷ 0xb ∷ []);
    }
    -- "ite else, then, condition": c, b, a, where the condition is the low bit of 0xa, so that the else is chosen, entry 1; "Both branches of an ite
    -- are evaluated."
    ∷ record {
      start = moving (loaded 0 0xa ++ (cast 1 1 5 ∷ (storing 7 0xb ++ (storing 11 0xc ++ (ite 6 10 14 ∷ []))))) 15 0 12;
      told =
          done (3 ∷ 1 ∷ 0 ∷ 0 ∷ 0 ∷ 0 ∷ 0 ∷ 0 ∷ []) (0 ∷ 8 ∷ 0xc ∷ 0xc ∷ 0 ∷ 8 ∷ 0xb ∷ 0xb ∷ 0 ∷ 8 ∷ 0xa ∷ 0xa ∷ []);
    }
    -- both branches too where the condition holds: the then is chosen, entry 2
    ∷ record {
      start = moving (word 1 1 ∷ (storing 1 0xb ++ (storing 5 0xc ++ (ite 0 4 8 ∷ [])))) 9 0 8;
      told = done (3 ∷ 2 ∷ 0 ∷ 0 ∷ 0 ∷ 0 ∷ 0 ∷ 0 ∷ []) (0 ∷ 8 ∷ 0xc ∷ 0xc ∷ 0 ∷ 8 ∷ 0xb ∷ 0xb ∷ []);
    }
    -- and where it is unknown, "an ite with unknown condition is unknown"
    ∷ record {
      start = moving (unknown 1 ∷ (storing 1 0xb ++ (storing 5 0xc ++ (ite 0 4 8 ∷ [])))) 9 0 8;
      told = done (2 ∷ 0 ∷ 0 ∷ 0 ∷ 0 ∷ 0 ∷ 0 ∷ 0 ∷ []) (0 ∷ 8 ∷ 0xc ∷ 0xc ∷ 0 ∷ 8 ∷ 0xb ∷ 0xb ∷ []);
    }
    -- "let bound then body": b then c, where the body is l plus 0xc
    ∷ record {
      start = moving (loaded 0 0xb ++ (var 2 ∷ (loaded 7 0xc ++ (binary 1 6 12 ∷ lets 2 5 13 ∷ [])))) 14 1 8;
      told = done (0 ∷ 0 ∷ 1 ∷ 0x17 ∷ 0 ∷ 0 ∷ 0 ∷ 0 ∷ []) (0 ∷ 8 ∷ 0xb ∷ 0xb ∷ 0 ∷ 8 ∷ 0xc ∷ 0xc ∷ []);
    }
    ∷ []

-- every start tells what its row says
pub table : map (λ (r : Row). tell r.start) rows ≡ map (λ (r : Row). r.told) rows
unfolding tell rows result Results.code_of signed word_of
table = refl
