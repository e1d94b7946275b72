-- No second answer fits: the contract of each public function leaves one result, or one content of the log. Assumes nothing.
use mathlib.Core.Path.{◌≡◌, refl, ap, ap₂}
use mathlib.Core.List.{List}
use Prim.Native.Nat.{ℕ, ◌<◌, ◌≤◌}
use native.Mathlib.Omega.{arith}
use contract.Lifetimes.{Lfts}
use Rattle.std.specs.Prelude.{Result, Ok, Err, ⊤, OnOk, OnErr}
use Rattle.base.specs.OneAnswer.{OneAnswer, OneContent, OneOutcome}
use Rattle.base.proofs.Unique.{is_unique}
use Rattle.memory.specs.declared.Entry.{Entry}
use Rattle.memory.specs.declared.Full.{Full}
use Rattle.memory.specs.declared.LogBuffer.{LogBuffer}
use Rattle.memory.specs.Log.{Log}
use Rattle.memory.specs.Buffer.{room_of, Becomes, Pushed}
use Rattle.memory.proofs as memory

pub entry_at_unique : (lent : Lfts 1) → OneAnswer (memory.entry_at.Reads.Post lent)
entry_at_unique lent a x y s t = is_unique

pub write_entry_unique : (lent : Lfts 1) → OneContent (memory.write_entry.Reads.Post lent) (λ s. s.0.now)
write_entry_unique lent a x y s t = is_unique

-- what stands in a log's buffer, and how many entries it has
abbrev pub Content : Type 0
Content = List ℕ × ℕ

abbrev pub content : LogBuffer → Content
content b = (b.numbers.now, b.count)

pub same_content : {l m : List ℕ} {n k : ℕ} → l ≡ m → n ≡ k → ◌≡◌ {A = Content} (l, n) (m, k)
same_content = ap₂ (λ (l : List ℕ) (n : ℕ). (l, n))

pub becomes_unique : {b c d : LogBuffer} {L : Log} → Becomes b L c → Becomes b L d → ◌≡◌ {A = Content} (content c) (content d)
becomes_unique p q = same_content (is_unique p.holds q.holds) (is_unique p.count q.count)

-- what a push gives and leaves, by its two promises
abbrev Pushes : LogBuffer → Entry → Result ⊤ Full → LogBuffer → Type 0
Pushes b e r c = OnOk r ((b.count < room_of b) × Pushed b e c) × OnErr r ((room_of b ≤ b.count) × (c ≡ b))

pushes_unique : (b c d : LogBuffer) (e : Entry) (r q : Result ⊤ Full) → Pushes b e r c → Pushes b e q d
    → (r ≡ q) × (◌≡◌ {A = Content} (content c) (content d))
pushes_unique b c d e (Ok x) (Ok y) p q = (refl, same_content (is_unique p.0.1.numbers q.0.1.numbers) (is_unique p.0.1.count q.0.1.count))
pushes_unique b c d e (Ok x) (Err y) p q = absurd (omega arith)
pushes_unique b c d e (Err x) (Ok y) p q = absurd (omega arith)
pushes_unique b c d e (Err x) (Err y) p q = (refl, ap content (is_unique p.1.1 q.1.1))

pub push_unique : (lent : Lfts 2) → OneOutcome {X = Content} (memory.LogBuffer.push.Reads.Post lent) (λ s. content s.0.now)
push_unique lent a x y s t = pushes_unique _ _ _ _ x y
