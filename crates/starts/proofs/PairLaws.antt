-- What refusal 18 asks of a pair, by its kind. Assumes nothing.
use Rattle.std.proofs.Common.{◌≡◌, refl, sym, ap, List, [], ◌∷◌, Bool, false, ◌&&◌, ℕ, ◌+◌, ◌*◌, ◌^◌, ◌<◌, ltb, eqb, length, get_or, ne_eqb}
use mathlib.Core.Bool.{or-false, and-false}
use Rattle.base.specs.Choice.{within}
use Rattle.base.specs.declared.codes.Code.TheVariants as Codes
use Rattle.base.specs.Refusals.{Answer, Searched, refusal}
use Rattle.table.specs.declared.Header.{Header}
use Rattle.table.specs.declared.Variable.{Variable}
use Rattle.table.specs.Bytes.{variable}
use Rattle.table.specs.Records.{Framed}
use Rattle.memory.specs.Log.{Log, width_at}
use Rattle.memory.proofs.LogLaws.{length-entries}
use Rattle.running.specs.Start.{pair_ok, pair_rule}

module _ (L : Log) (v : Variable) {kind : ℕ} (n : ℕ) where
  pub absent_pair : kind ≡ 0 → eqb n 0 ≡ pair_ok L v kind n
  unfolding pair_ok
  absent_pair k = rw (k, and-false (eqb v.role 0)) (sym (or-false (eqb n 0)))

  -- a let variable has no other
  pub let_pair : (kind ≡ 0 → ⊥) → (v.role ≡ 0 → ⊥) → false ≡ pair_ok L v kind n
  unfolding pair_ok
  let_pair k r = rw (ne_eqb kind 0 k, ne_eqb v.role 0 r)

  pub word_pair : kind ≡ 1 → v.role ≡ 0 → (eqb v.kind 1 && ltb n (2 ^ v.width)) ≡ pair_ok L v kind n
  unfolding pair_ok
  word_pair k r = rw (k, r) (sym (or-false (eqb v.kind 1 && ltb n (2 ^ v.width))))

  pub unknown_pair : kind ≡ 2 → v.role ≡ 0 → eqb n 0 ≡ pair_ok L v kind n
  unfolding pair_ok
  unknown_pair k r = rw (k, r) (sym (or-false (eqb n 0)))

  pub memory_pair : kind ≡ 3 → v.role ≡ 0
      → (eqb v.kind 2 && (within 1 (length L) n && eqb (width_at L n) v.addressWidth)) ≡ pair_ok L v kind n
  unfolding pair_ok
  memory_pair k r = rw (k, r)

  pub no_pair : (kind ≡ 0 → ⊥) → (kind ≡ 1 → ⊥) → (kind ≡ 2 → ⊥) → (kind ≡ 3 → ⊥) → false ≡ pair_ok L v kind n
  unfolding pair_ok
  no_pair a b c d = rw (ne_eqb kind 0 a, ne_eqb kind 1 b, ne_eqb kind 2 c, ne_eqb kind 3 d, and-false (eqb v.role 0))

-- all of these, and that the log of a buffer's first entries is as long as they are many
pub ruleset pair_laws = (absent_pair, let_pair, word_pair, unknown_pair, memory_pair, no_pair, length-entries)

-- what a search over the variables answers
pub pairs_searched :
    (s σ : List ℕ) (L : Log) {h : Header} {Tells : ℕ → Bool → Type 0} {answer : Answer} → Framed s h → Searched Tells Codes.Pair h.variables answer
    → ((x : ℕ) (b : Bool) → x < h.variables → Tells x b → b ≡ pair_ok L (variable s x) (get_or σ (2 * x) 0) (get_or σ (2 * x + 1) 0))
    → answer ≡ refusal (pair_rule s σ L ∷ [])
pairs_searched s σ L framed found told = found (pair_rule s σ L) refl (sym (ap (λ (k : Header). k.variables) framed.is)) told
