-- Texts put one behind the other are their join put at once. Assumes nothing.
use Rattle.std.proofs.Common.{◌≡◌, refl, sym, ap, ap₂, ◌∙◌, List, [], ◌∷◌, ◌++◌, ℕ, suc, ◌+◌, ◌≤◌, ◌<◌, add-zero, arith, length, get_or, set, take, drop, length-append}
use lib.Seq.{sets, take-suc, length-take-le}
use Rattle.std.proofs.lemmas.List.{append_assoc}
use Rattle.std.proofs.lemmas.List.Edits.{sets-eq, paste_all}
use Rattle.std.proofs.lemmas.Slice.{put_mid-paste}
use borrow.Rule.Slice.PartMut.{put_mid}
use Rattle.report.specs.Placed.{Puts}
use Rattle.report.specs.declared.text.Text.{Text}

pub sets_append : (t u l : List ℕ) (at : ℕ) → sets l at (t ++ u) ≡ sets (sets l at t) (at + length t) u
sets_append [] u l at = ap (λ (k : ℕ). sets l k u) (sym (add-zero at))
sets_append (x ∷ t) u l at =
    sets_append t u (set l at x) (suc at) ∙ ap (λ (k : ℕ). sets (sets (set l at x) (suc at) t) k u) (omega arith)

-- one byte more of a text
pub sets_more : (l text : List ℕ) (at i : ℕ) → i < length text → sets l at (take (suc i) text) ≡ set (sets l at (take i text)) (at + i) (get_or text i 0)
sets_more l text at i h =
    ap (sets l at) (take-suc text i 0 h)
    ∙ sets_append (take i text) (get_or text i 0 ∷ []) l at
    ∙ ap (λ (k : ℕ). set (sets l at (take i text)) (at + k) (get_or text i 0)) (length-take-le i text (omega arith))

-- a text that is put into a part of as many places
pub put_sets :
    (l t : List ℕ) (at k : ℕ) {y : List ℕ} → at + length t ≤ length l → length t ≡ k → y ≡ t → put_mid at k l y ≡ sets l at t
put_sets l t at k {y} inside same is =
    put_mid-paste at k l y t (length t) is same refl
    ∙ paste_all l at t (length t) refl
    ∙ sym (append_assoc (take at l) t (drop (at + length t) l))
    ∙ sym (sets-eq t l at inside)

-- a text, then another
pub then_puts : {p q : ℕ} {a b c : Text} {t u : List ℕ} → Puts p a t b → Puts q b u c → Puts (p + q) a (t ++ u) c
then_puts {p} {q} {a} {b} {c} {t} {u} f g =
    let first = f.end in
    let second = g.end in
    let joined = length-append t u in
    let here = f.near in
    let there = g.near in
    record {
      is = g.is ∙ ap₂ (λ (x : List ℕ) (k : ℕ). sets x k u) f.is first ∙ sym (sets_append t u a.buffer.now a.end);
      end = omega arith;
      near = omega arith;
      same_length = g.same_length ∙ f.same_length;
      same_buffer = g.same_buffer ∙ f.same_buffer;
    }

-- a text of no bytes
pub puts_none : (a : Text) → Puts 0 a [] a
puts_none a = record { is = refl; end = omega arith; near = omega arith; same_length = refl; same_buffer = refl }

-- in a wider bound
pub wider : {p q : ℕ} {a b : Text} {t : List ℕ} → Puts p a t b → p ≤ q → Puts q a t b
wider f h = let near = f.near in record { is = f.is; end = f.end; near = omega arith; same_length = f.same_length; same_buffer = f.same_buffer }
