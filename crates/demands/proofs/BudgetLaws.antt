-- A run that is done within a budget ends alike with a larger one. Assumes nothing.
use mathlib.Core.Path.{◌≡◌, refl, ap}
use mathlib.Core.List.{List, []}
use mathlib.Core.Option.{Option, none, some}
use Prim.Native.Nat.{ℕ, zero, suc, ◌≤◌}
use native.Mathlib.Omega.{arith}
use lib.ListN.{length}
use Rattle.base.proofs.BoolLaws.{impossible}
use Rattle.base.specs.declared.codes.Stop.{Stop}
use Rattle.value.specs.declared.Value.{Value}
use Rattle.table.specs.Decode.{Context, context, program}
use Rattle.table.specs.Syntax as S
use Rattle.table.specs.Syntax.{Block, ◌then◌}
use Rattle.memory.specs.Log.{Log, holding}
use Rattle.evaluation.specs.Evaluation.{Evaluated, value, stopped, eval}
use Rattle.evaluation.specs.State.{moved}
use Rattle.running.specs.declared.Ending.TheVariants.{Done, Stopped}
use Rattle.running.specs.Run.{Left, left, stop, Guard, holds, fails, unsure, guard, target, run}
use Rattle.running.specs.Start.{Start, room_of, log_of}
use Rattle.running.specs.Result.{Result, ran}
use Rattle.demands.specs.Idle.{granted}

-- what both leave, the ticks apart
record Alike (x y : Left) : Type 0 where
  state : y.state ≡ x.state
  log : y.log ≡ x.log
  next : y.next ≡ x.next

-- where the first is done
abbrev IfDone : Left → Left → Type 0
IfDone x y = x.ending ≡ Done → Alike x y

not_done : {x y : Left} {code : Stop} {n : ℕ} → x.ending ≡ Stopped code n → IfDone x y
not_done stops e = impossible (cc)

-- a statement after its evaluation
after :
    (n t u : ℕ) (σ : List ℕ) (a : ℕ) (r : Evaluated) (f g : Value → Log → Left) → ((v : Value) (M : Log) → IfDone (f v M) (g v M))
    → IfDone (elim r [ stopped code M ↦ stop code n t σ M a | value v M ↦ f v M ])
    (elim r [ stopped code M ↦ stop code n u σ M a | value v M ↦ g v M ])
unfolding stop
after n t u σ a (value v M) f g on = on v M
after n t u σ a (stopped code M) f g on = not_done refl

at_guard :
    {x x' y y' z z' : Left} (g : Guard) → IfDone x x' → IfDone y y' → IfDone z z'
    → IfDone (elim g [ holds ↦ x | fails ↦ y | unsure ↦ z ]) (elim g [ holds ↦ x' | fails ↦ y' | unsure ↦ z' ])
at_guard holds p q r = p
at_guard fails p q r = q
at_guard unsure p q r = r

at_target :
    {z z' : Left} (o : Option ℕ) (f g : ℕ → Left) → IfDone z z' → ((d : ℕ) → IfDone (f d) (g d))
    → IfDone (elim o [ none ↦ z | some d ↦ f d ]) (elim o [ none ↦ z' | some d ↦ g d ])
at_target none f g p h = p
at_target (some d) f g p h = h d

module _ (Γ : Context) (room : ℕ) where
  ends : (t : ℕ) (σ : List ℕ) (L : Log) (a : ℕ) → Alike (left Done 0 σ L a) (run Γ room t S.end σ L a)
  unfolding run
  ends zero σ L a = record { state = refl; log = refl; next = refl }
  ends (suc t) σ L a = record { state = refl; log = refl; next = refl }

  done_stays :
      (t u : ℕ) → t ≤ u → (k : Block) (σ : List ℕ) (L : Log) (a : ℕ) → IfDone (run Γ room t k σ L a) (run Γ room u k σ L a)
  unfolding run
  done_stays zero u h S.end σ L a = λ e. ends u σ L a
  done_stays zero u h (S.move n x e k) σ L a = not_done refl
  done_stays zero u h (S.jmp n e k) σ L a = not_done refl
  done_stays zero u h (S.cpuexn n k) σ L a = not_done refl
  done_stays zero u h (S.special n k) σ L a = not_done refl
  done_stays zero u h (S.while n e b k) σ L a = not_done refl
  done_stays zero u h (S.if n e b c k) σ L a = not_done refl
  done_stays (suc t) zero h k σ L a = absurd (omega arith)
  done_stays (suc t) (suc u) h S.end σ L a = λ e. record { state = refl; log = refl; next = refl }
  done_stays (suc t) (suc u) h (S.move n x e k) σ L a =
      after n t u σ a (eval Γ room σ e [] L) _ _ λ v M. done_stays t u (omega arith) k (moved σ x v) M a
  done_stays (suc t) (suc u) h (S.jmp n e k) σ L a =
      after n t u σ a (eval Γ room σ e [] L) _ _ λ v M.
      at_target (target v) _ _ (not_done refl) (λ d. done_stays t u (omega arith) k σ M d)
  done_stays (suc t) (suc u) h (S.cpuexn n k) σ L a = done_stays t u (omega arith) k σ L a
  done_stays (suc t) (suc u) h (S.special n k) σ L a = done_stays t u (omega arith) k σ L a
  done_stays (suc t) (suc u) h (S.while n e b k) σ L a =
      after n t u σ a (eval Γ room σ e [] L) _ _ λ v M.
      at_guard (guard v) (done_stays t u (omega arith) (b then S.while n e b k) σ M a) (done_stays t u (omega arith) k σ M a) (not_done refl)
  done_stays (suc t) (suc u) h (S.if n e b c k) σ L a =
      after n t u σ a (eval Γ room σ e [] L) _ _ λ v M.
      at_guard (guard v) (done_stays t u (omega arith) (b then k) σ M a) (done_stays t u (omega arith) (c then k) σ M a) (not_done refl)

-- ------------------------------------------------------------------------------------------------
-- The numbers and buffers given back

pub record SameBuffers (r q : Result) : Type 0 where
  pub count : q.count ≡ r.count
  pub next : q.next ≡ r.next
  pub state : q.state ≡ r.state
  pub log : q.log ≡ r.log

pub done_within :
    (s : Start) (b c : ℕ) → b ≤ c → (ran (granted s b)).ending ≡ Done → SameBuffers (ran (granted s b)) (ran (granted s c))
unfolding ran granted
done_within s b c h e =
    let k = done_stays (context s.table) (room_of s) b c h (program s.table) s.state (log_of s) s.next e in
    record { count = ap length k.log; next = k.next; state = k.state; log = ap (holding s.log) k.log }
