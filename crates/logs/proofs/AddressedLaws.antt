-- A memory with an address of its width, by what the two are. Assumes nothing.
use Rattle.std.proofs.Common.{◌≡◌, ℕ, ◌≤◌, Bool, length, sym, refl, ap, ◌∙◌, subst}
use Rattle.word.specs.Words.{IsWord}
use Rattle.value.specs.declared.ValueType.TheVariants.{Imm, Mem}
use Rattle.value.specs.declared.Value.{Value}
use Rattle.value.specs.declared.Value.TheVariants.{Word, Unknown, Memory}
use Rattle.value.specs.Values.{Sound, Yields, type_of, size}
use Rattle.table.specs.Asked.{SizeOk}
use Rattle.memory.specs.Log.{Log}
use Rattle.memory.specs.Access.{load}
use Rattle.memory.proofs.AccessKeeps.{has_load}
use Rattle.logs.specs.Held.{Addressed}

module _ {L : Log} {w head : ℕ} {m a : Value} (h : Addressed L m a) (is-memory : m ≡ Memory w head) where
  pub head_most : head ≤ length L
  head_most = (rw is-memory at h.memory.head).link.most

  pub address_fits : {v x : ℕ} → a ≡ Word v x → IsWord w x
  address_fits {v} is_word =
      let p : Mem w ≡ Mem h.width = rw is-memory at h.memory.type in
      let q : Imm v ≡ Imm h.width = rw is_word at h.address.type in
      let same : v ≡ w = cc in
      rw same at (rw is_word at h.address.sound)

-- an address that is a word, of the memory's width
module _ {L : Log} {w x : ℕ} {m a : Value} (h : Addressed L m a) (is_word : a ≡ Word w x) where
  pub word_fits : IsWord w x
  word_fits = rw is_word at h.address.sound

  pub memory_size : size (type_of m) ≡ w
  memory_size =
      let q : Imm w ≡ Imm h.width = rw is_word at h.address.type in
      let same : h.width ≡ w = cc in
      ap size h.memory.type ∙ same

-- ------------------------------------------------------------------------------------------------
-- What a load promises

module _ (L : Log) (z : ℕ) (big : Bool) (m a : Value) where
  -- where the two aren't a memory and a word
  pub load_unknown : ((w head v x : ℕ) → m ≡ Memory w head → a ≡ Word v x → ⊥) → Unknown (Imm z) ≡ load L z big m a
  unfolding load
  load_unknown never = go m a never
    where
      go : (m a : Value) → ((w head v x : ℕ) → m ≡ Memory w head → a ≡ Word v x → ⊥) → Unknown (Imm z) ≡ load L z big m a
      go (Memory w head) (Word v x) never = absurd (never w head v x refl refl)
      go (Memory w head) (Unknown t) never = refl
      go (Memory w head) (Memory v h) never = refl
      go (Unknown t) a never = refl
      go (Word w x) a never = refl

  pub load_yields : {r : Value} → SizeOk z → r ≡ load L z big m a → Yields (Imm z) (load L z big m a) r
  load_yields s e =
      let has = has_load L big m a s in
      record { is = e; sound = subst Sound (sym e) has.sound; type = ap type_of e ∙ has.type }
