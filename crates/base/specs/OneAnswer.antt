-- What it means that no second answer fits a promise. Paper 01: "For each input, bad ones too, that statement leaves one possible answer and
-- one possible content of each buffer". Post says of arguments, a result and what stands at exit that they fit a function's contract. Assumes
-- nothing.
use Rattle.std.specs.Prelude.{◌≡◌}

-- there is one result, whatever stands at exit
abbrev pub OneAnswer : {A R S : Type 0} → (A → R → S → Type 0) → Type 0
OneAnswer {A} {R} {S} Post = (a : A) (x y : R) (s t : S) → Post a x s → Post a y t → x ≡ y

-- of a function that gives nothing: one content of what it leaves at exit
abbrev pub OneContent : {A R S X : Type 0} → (A → R → S → Type 0) → (S → X) → Type 0
OneContent {A} {R} {S} Post content = (a : A) (x y : R) (s t : S) → Post a x s → Post a y t → content s ≡ content t

-- of a function that gives something and leaves something: one result and one content
abbrev pub OneOutcome : {A R S X : Type 0} → (A → R → S → Type 0) → (S → X) → Type 0
OneOutcome {A} {R} {S} Post content = (a : A) (x y : R) (s t : S) → Post a x s → Post a y t → (x ≡ y) × (content s ≡ content t)
