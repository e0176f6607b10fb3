-- A `?` in the code is `and_then` in the definitions: what the answer of a callee says of the verdict that it tells. Assumes nothing.
use mathlib.Core.Path.{◌≡◌, refl, sym, ap, ◌∙◌}
use Rattle.std.specs.Prelude.{Result, Ok, Err, IfOk}
use Rattle.model.specs.declared.refusals.Refusal.{Refusal}
use Rattle.model.specs.Refusals.{number_of, detail_of}
use Rattle.spec.specs.Lists.{Verdict, accepted, refused, and_then}
use Rattle.spec.specs.Answers.{told, accepted_as}

-- the callee refused: what goes on from its verdict refuses by the same number and detail
pub stops : {A B : Type 0} {r : Result A Refusal} {v : Verdict A} {e : Refusal} (f : A → Verdict B)
    → told r ≡ v → r ≡ Err e → and_then v f ≡ refused (number_of e) (detail_of e)
unfolding and_then
stops f t is = ap (λ u. and_then u f) (sym t ∙ ap told is)

-- the callee accepted: what goes on from its verdict goes on from its result
pub goes_on : {A B : Type 0} {r : Result A Refusal} {v : Verdict A} {a : A} (f : A → Verdict B)
    → told r ≡ v → r ≡ Ok a → and_then v f ≡ f a
unfolding and_then
goes_on f t is = ap (λ u. and_then u f) (sym t ∙ ap told is)

-- the same of a callee whose result is given in another form
as-stops : {A B : Type 0} (g : A → B) (v : Verdict A) (e : Refusal)
    → refused (number_of e) (detail_of e) ≡ accepted_as g v → v ≡ refused (number_of e) (detail_of e)
as-stops g (accepted a) e t = cc
as-stops g (refused n d) e t = cc

pub refused-as : {A B : Type 0} {r : Result B Refusal} {v : Verdict A} {e : Refusal} (g : A → B)
    → told r ≡ accepted_as g v → r ≡ Err e → v ≡ refused (number_of e) (detail_of e)
refused-as {v = v} g t is = as-stops g v _ (sym (ap told is) ∙ t)

pub as-goes_on : {A B : Type 0} (g : A → B) (v : Verdict A) (b : B)
    → accepted b ≡ accepted_as g v → (a : A) × (v ≡ accepted a) × (b ≡ g a)
as-goes_on g (accepted a) b t = (a, refl, cc)
as-goes_on g (refused n d) b t = cc

pub accepted-as : {A B : Type 0} {r : Result B Refusal} {v : Verdict A} {b : B} (g : A → B)
    → told r ≡ accepted_as g v → r ≡ Ok b → (a : A) × (v ≡ accepted a) × (b ≡ g a)
accepted-as {v = v} g t is = as-goes_on g v _ (sym (ap told is) ∙ t)

-- the other form of what goes on
pub as-and_then : {A B C : Type 0} (g : B → C) (v : Verdict A) (f : A → Verdict B)
    → accepted_as g (and_then v f) ≡ and_then v (λ a. accepted_as g (f a))
unfolding and_then
as-and_then g (accepted a) f = refl
as-and_then g (refused n d) f = refl

-- what holds of each result that is accepted
pub when-ok : {A E : Type 0} (r : Result A E) (P : A → Type 0) → ((a : A) → r ≡ Ok a → P a) → IfOk r P
when-ok (Ok a) P h = h a refl
when-ok (Err e) P h = tt
