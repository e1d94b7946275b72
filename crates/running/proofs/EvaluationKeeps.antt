-- Evaluation keeps types: a formed expression of a type gives a value of that type or stops, and the log goes on by its rules.
-- Assumes nothing.
use mathlib.Core.Bool.{Bool, true, false}
use mathlib.Core.List.{List}
use Prim.Native.Nat.{ℕ}
use lib.Dec.{ltb}
use lib.ListN.{length}
use borrow.Author.Tests.{le-leb, lt-leb}
use Rattle.base.specs.declared.codes.Stop.TheVariants as Stops
use Rattle.value.specs.declared.ValueType.{ValueType}
use Rattle.table.specs.Decode.{Context}
use Rattle.table.specs.Syntax.{Expr}
use Rattle.typing.specs.Typing.{◌⊢◌∶◌, T-VAR, T-INT, T-LOAD, T-STORE, T-AOP, T-LOP, T-UOP, T-CAST-NARROW, T-CAST-WIDEN, T-LET, T-UNKNOWN}
use Rattle.typing.specs.Typing.{T-ITE, T-EXTRACT, T-CONCAT}
use Rattle.memory.specs.Log.{Log}
use Rattle.memory.proofs.LogLaws.{stay}
use Rattle.memory.specs.Room.{InRoom}
use Rattle.memory.proofs.HasLaws.{has_stays, has_word, has_unknown, has_binary, has_unary, has_cast, has_extract, has_concat, has_choose}
use Rattle.memory.proofs.AccessKeeps.{has_load, store_keeps}
use Rattle.evaluation.specs.Evaluation.{Evaluated, stopped, eval, Binding, most_bindings}
use Rattle.evaluation.proofs.Formed.{Formed, f_var, f_word, f_load, f_store, f_binary, f_unary, f_cast, f_let, f_unknown, f_ite, f_extract, f_concat}
use Rattle.evaluation.specs.Fitting.{Fits}
use Rattle.evaluation.proofs.EvaluationLaws.{fits_stays, fits_bound, has_look, Gives, gives, stops, gives_then, gives_stored, too_many_bindings}

-- a let, by whether there is room for its binding
at_let :
    {room : ℕ} {L : Log} {t : ValueType} {r : Evaluated} (b : Bool) → InRoom room L → Gives room L t r
    → Gives room L t (elim b [ true ↦ r | false ↦ stopped Stops.TooManyBindings L ])
at_let true k g = g
at_let false k g = stops stay k too_many_bindings

module _ (Γ : Context) (n room : ℕ) (σ : List ℕ) where
  pub eval_keeps :
      {e : Expr} {t : ValueType} → Γ ⊢ e ∶ t → Formed n e → {ρ : List Binding} {L : Log} → Fits Γ n room σ ρ L → Gives room L t (eval Γ room σ e ρ L)
  unfolding eval
  eval_keeps (T-VAR {x = x}) (f_var h) F = gives stay F.log (has_look x F.bindings (F.state x h))
  eval_keeps T-INT (f_word h) F = gives stay F.log (has_word h)
  eval_keeps (T-LOAD {big = big} m e) (f_load z fm fe) F =
      gives_then (eval_keeps e fe F) λ a L p k ha.
      gives_then (eval_keeps m fm (fits_stays p k F)) λ c M q l hc.
      gives stay l (has_load M big c a z)
  eval_keeps (T-STORE {big = big} m e v) (f_store z fm fe fv) F =
      gives_then (eval_keeps v fv F) λ b L p k hb.
      let G = fits_stays p k F in
      gives_then (eval_keeps e fe G) λ a M q l ha.
      gives_then (eval_keeps m fm (fits_stays q l G)) λ c N r o hc.
      gives_stored (store_keeps big c a b z o hc (has_stays r ha))
  eval_keeps (T-AOP {sub = sub} h e f) (f_binary fe ff) F =
      gives_then (eval_keeps e fe F) λ a L p k ha.
      gives_then (eval_keeps f ff (fits_stays p k F)) λ b M q l hb.
      gives stay l (rw (le-leb sub 13 h) at (has_binary sub a b (has_stays q ha) hb))
  eval_keeps (T-LOP {sub = sub} h e f) (f_binary fe ff) F =
      gives_then (eval_keeps e fe F) λ a L p k ha.
      gives_then (eval_keeps f ff (fits_stays p k F)) λ b M q l hb.
      gives stay l (rw (lt-leb sub 13 h) at (has_binary sub a b (has_stays q ha) hb))
  eval_keeps (T-UOP {sub = sub} e) (f_unary fe) F =
      gives_then (eval_keeps e fe F) λ a L p k ha.
      gives stay k (has_unary sub a ha)
  eval_keeps (T-CAST-NARROW {sub = sub} {p = w} s h e) (f_cast z fe) F =
      gives_then (eval_keeps e fe F) λ a L p k ha.
      gives stay k (has_cast sub w a z (rw (le-leb sub 2 s) h) ha)
  eval_keeps (T-CAST-WIDEN {sub = sub} {p = w} s h e) (f_cast z fe) F =
      gives_then (eval_keeps e fe F) λ a L p k ha.
      gives stay k (has_cast sub w a z (rw (lt-leb sub 2 s) h) ha)
  eval_keeps (T-LET {x = x} e f) (f_let h fe ff) {ρ} F =
      gives_then (eval_keeps e fe F) λ a L p k ha.
      at_let (ltb (length ρ) most_bindings) k (eval_keeps f ff (fits_bound x ha (fits_stays p k F)))
  eval_keeps T-UNKNOWN (f_unknown h) F = gives stay F.log (has_unknown h)
  eval_keeps (T-ITE c e f) (f_ite fc fe ff) F =
      gives_then (eval_keeps f ff F) λ z L p k hz.
      let G = fits_stays p k F in
      gives_then (eval_keeps e fe G) λ y M q l hy.
      gives_then (eval_keeps c fc (fits_stays q l G)) λ x N r o hx.
      gives stay o (has_choose x y z (has_stays r hy) (has_stays r (has_stays q hz)))
  eval_keeps (T-EXTRACT {p = p} {q = q} e) (f_extract l h fe) F =
      gives_then (eval_keeps e fe F) λ a L r k ha.
      gives stay k (has_extract p q a l h)
  eval_keeps (T-CONCAT h e f) (f_concat fe ff) F =
      gives_then (eval_keeps e fe F) λ a L p k ha.
      gives_then (eval_keeps f ff (fits_stays p k F)) λ b M q l hb.
      gives stay l (has_concat a b h (has_stays q ha) hb)
