-- A run keeps types: at every number of ticks and whatever the stop, the state it leaves is one that a run may start from. Assumes nothing.
use mathlib.Core.Path.{◌≡◌}
use mathlib.Core.List.{List, []}
use mathlib.Core.Option.{none, some}
use Prim.Native.Nat.{ℕ, zero, suc, ◌^◌, ◌≤◌, ◌<◌}
use native.Mathlib.Nat.{le_refl}
use native.Mathlib.Omega.{arith}
use Rattle.base.specs.declared.codes.Stop.{Stop}
use Rattle.value.specs.declared.ValueType.{ValueType}
use Rattle.value.specs.declared.ValueType.TheVariants.{Imm}
use Rattle.value.specs.declared.Value.{Value}
use Rattle.value.specs.declared.Value.TheVariants.{Word, Unknown, Memory}
use Rattle.table.specs.Bytes.{header, variable}
use Rattle.table.specs.Decode.{Context, context}
use Rattle.table.specs.Syntax.{Expr, Block, ◌then◌}
use Rattle.typing.specs.Typing.{◌⊢◌∶◌, Ok, T-END, T-MOVE, T-JMP, T-CPUEXN, T-SPECIAL, T-WHILE, T-IF}
use Rattle.memory.specs.Log.{Log}
use Rattle.memory.proofs.LogLaws.{◌⊑◌, stay, ⊑_trans}
use Rattle.memory.specs.Room.{InRoom}
use Rattle.memory.specs.Typed.{Has}
use Rattle.evaluation.specs.Evaluation.{Evaluated, value, stopped, eval}
use Rattle.evaluation.proofs.Formed.{Formed, FormedBlock, f_end, f_move, f_jmp, f_cpuexn, f_special, f_while, f_if, formed_then}
use Rattle.evaluation.proofs.EvaluationLaws.{Gives, gives, stops}
use Rattle.running.specs.declared.Ending.{Ending}
use Rattle.running.specs.declared.Ending.TheVariants.{Done, Stopped}
use Rattle.running.specs.Run.{Left, left, stop, run, Guard, holds, fails, unsure, guard, target}
use Rattle.running.specs.Standing.{Stands}
use Rattle.running.proofs.EvaluationKeeps.{eval_keeps}
use Rattle.running.specs.Standing.{StateOk}
use Rattle.running.proofs.PairLaws.{Declared, state_stays, state_fits, state_moved}

-- one block and then another, both ok
pub ok_then : {Γ : Context} {A : ℕ} {b k : Block} → Ok Γ A b → Ok Γ A k → Ok Γ A (b then k)
unfolding ◌then◌
ok_then T-END k = k
ok_then (T-MOVE e b) k = T-MOVE e (ok_then b k)
ok_then (T-JMP e b) k = T-JMP e (ok_then b k)
ok_then (T-CPUEXN b) k = T-CPUEXN (ok_then b k)
ok_then (T-SPECIAL b) k = T-SPECIAL (ok_then b k)
ok_then (T-WHILE e b c) k = T-WHILE e b (ok_then c k)
ok_then (T-IF e b c d) k = T-IF e b c (ok_then d k)

-- ------------------------------------------------------------------------------------------------
-- What a run keeps

-- the endings that a run has: done, or a stop
pub data EndsBy : Ending → Type 0 where
  by_done : EndsBy Done
  by_stop : {code : Stop} {n : ℕ} → EndsBy (Stopped code n)

-- what a run of t ticks from a log leaves
pub record Kept (s : List ℕ) (room t : ℕ) (L : Log) (l : Left) : Type 0 where
  pub state : StateOk s l.log l.state
  pub log : InRoom room l.log
  pub grown : L ⊑ l.log
  pub next : l.next < 2 ^ (header s).width
  pub remaining : l.remaining ≤ t
  pub ends : EndsBy l.ending

kept_left : {s σ : List ℕ} {room a : ℕ} {L : Log} {e : Ending} (t : ℕ) → EndsBy e → Stands s room σ L a → Kept s room t L (left e t σ L a)
unfolding left
kept_left t e h = record { state = h.state; log = h.log; grown = stay; next = h.next; remaining = le_refl t; ends = e }

-- a run that goes on later
kept_later : {s : List ℕ} {room t : ℕ} {L M : Log} {l : Left} → L ⊑ M → Kept s room t M l → Kept s room (suc t) L l
kept_later p k = record { state = k.state; log = k.log; grown = ⊑_trans p k.grown; next = k.next; remaining = omega arith; ends = k.ends }

stands_later : {s σ : List ℕ} {room a : ℕ} {L M : Log} → L ⊑ M → InRoom room M → Stands s room σ L a → Stands s room σ M a
stands_later p k h = record { state = state_stays p h.state; log = k; next = h.next }

-- ------------------------------------------------------------------------------------------------
-- Statements

-- a statement after its evaluation
after :
    {s σ : List ℕ} {room a : ℕ} {L : Log} {u : ValueType} {r : Evaluated} (n t : ℕ) (f : Value → Log → Left) → Stands s room σ L a → Gives room L u r
    → ((v : Value) (M : Log) → Stands s room σ M a → Has M v u → Kept s room t M (f v M))
    → Kept s room (suc t) L (elim r [ stopped code M ↦ stop code n t σ M a | value v M ↦ f v M ])
unfolding stop
after n t f h (gives p k g) rest = kept_later p (rest _ _ (stands_later p k h) g)
after n t f h (stops p k c) rest = kept_later p (kept_left t by_stop (stands_later p k h))

at_guard :
    {s : List ℕ} {room t : ℕ} {L : Log} {x y z : Left} (g : Guard) → Kept s room t L x → Kept s room t L y → Kept s room t L z
    → Kept s room t L (elim g [ holds ↦ x | fails ↦ y | unsure ↦ z ])
at_guard holds p q r = p
at_guard fails p q r = q
at_guard unsure p q r = r

at_target :
    {s : List ℕ} {room t A : ℕ} {L M : Log} {z : Left} (v : Value) (f : ℕ → Left) → Has M v (Imm A) → Kept s room t L z
    → ((d : ℕ) → d < 2 ^ A → Kept s room t L (f d)) → Kept s room t L (elim (target v) [ none ↦ z | some d ↦ f d ])
unfolding target
at_target {A = A} (Word w d) f h p k =
    let e : Imm w ≡ Imm A = h.type in
    let g : w ≡ A = cc in
    k d (rw g at h.sound.fits)
at_target (Unknown t) f h p k = p
at_target (Memory w head) f h p k = p

-- ------------------------------------------------------------------------------------------------
-- Runs

module _ (s : List ℕ) (variables : (x : ℕ) → x < (header s).variables → Declared (variable s x)) (room : ℕ) where
  evaluated :
      {σ : List ℕ} {L : Log} {a : ℕ} {e : Expr} {t : ValueType} → Stands s room σ L a → context s ⊢ e ∶ t → Formed (header s).variables e
      → Gives room L t (eval (context s) room σ e [] L)
  evaluated {σ} h d f = eval_keeps (context s) (header s).variables room σ d f (state_fits s variables h.state h.log)

  pub run_keeps :
      (t : ℕ) {k : Block} → Ok (context s) (header s).width k → FormedBlock s k → {σ : List ℕ} {L : Log} {a : ℕ} → Stands s room σ L a
      → Kept s room t L (run (context s) room t k σ L a)
  unfolding run
  run_keeps zero T-END f h = kept_left 0 by_done h
  run_keeps zero (T-MOVE e k) f h = kept_left 0 by_stop h
  run_keeps zero (T-JMP e k) f h = kept_left 0 by_stop h
  run_keeps zero (T-CPUEXN k) f h = kept_left 0 by_stop h
  run_keeps zero (T-SPECIAL k) f h = kept_left 0 by_stop h
  run_keeps zero (T-WHILE e b k) f h = kept_left 0 by_stop h
  run_keeps zero (T-IF e b c k) f h = kept_left 0 by_stop h
  run_keeps (suc t) T-END f_end h = kept_left (suc t) by_done h
  run_keeps (suc t) (T-MOVE {n = n} {x = x} e k) (f_move y r fe fk) h =
      after n t _ h (evaluated h e fe) λ v M g hv.
      run_keeps t k fk (record { state = state_moved s variables x v y r hv g.state; log = g.log; next = g.next })
  run_keeps (suc t) (T-JMP {n = n} e k) (f_jmp fe fk) h =
      after n t _ h (evaluated h e fe) λ v M g hv.
      at_target v _ hv (kept_left t by_stop g) λ d l. run_keeps t k fk (record { state = g.state; log = g.log; next = l })
  run_keeps (suc t) (T-CPUEXN k) (f_cpuexn fk) h = kept_later stay (run_keeps t k fk h)
  run_keeps (suc t) (T-SPECIAL k) (f_special fk) h = kept_later stay (run_keeps t k fk h)
  run_keeps (suc t) (T-WHILE {n = n} e b k) (f_while fe fb fk) h =
      after n t _ h (evaluated h e fe) λ v M g hv.
      at_guard (guard v) (run_keeps t (ok_then b (T-WHILE e b k)) (formed_then fb (f_while fe fb fk)) g) (run_keeps t k fk g) (kept_left t by_stop g)
  run_keeps (suc t) (T-IF {n = n} e b c k) (f_if fe fb fc fk) h =
      after n t _ h (evaluated h e fe) λ v M g hv.
      at_guard (guard v) (run_keeps t (ok_then b k) (formed_then fb fk) g) (run_keeps t (ok_then c k) (formed_then fc fk) g) (kept_left t by_stop g)
