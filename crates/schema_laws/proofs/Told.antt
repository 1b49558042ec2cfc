-- What is told of a value is told of what stands at the place.
use Rattle.std.proofs.Common.{◌≡◌, ℕ, List, [], ◌∷◌, ◌++◌, map, Option, Some, None, Bool, true, false, refl, sym, ap, subst, ◌∙◌, inl, inr}
use Rattle.std.specs.Prelude.{Contains, not, filter, option_and_then, codes, if◌then◌else◌}
use Rattle.std.proofs.lemmas.List.Elements.{Contains-append_cases}
use Rattle.json_value.specs.Value as value
use Rattle.json_value.specs.Value.{Value, null, number, fraction, text, list, member_at}
use Rattle.schema_defs.specs.Location.{Location}
use Rattle.schema_defs.proofs.Stand.{none_in, first_or_rest, first_in, rest_in}
use Rattle.schema_faults.specs.Schemas.{Node, schemas_of}
use Rattle.schema_faults.specs.Faults.{Place, Told, told_at, told_among, text_in, references_in, reference_texts, bad_reference_texts, leads}
use Rattle.schema_laws.specs.ValueAt.{part_at, value_at}
use Rattle.schema_laws.specs.Laws.{ToldPlacesStand, ReferencesStand}
use Rattle.schema_laws.proofs.Stand.{schemas_stand}

told_here : (l : Location) (ts : List (List ℕ)) (p : Place) → Contains (map (λ t. (l, t)) ts) p → (l ≡ p.0) × Contains ts p.1
told_here l [] p c = absurd (none_in p c)
told_here l (t ∷ ts) p c =
    elim (first_or_rest (l, t) (map (λ t. (l, t)) ts) p c) [
      | inl e ↦ (ap (λ q. q.0) e, subst (λ q. Contains (t ∷ ts) q.1) e (first_in t ts))
      | inr g ↦ let r = told_here l ts p g in (r.0, rest_in t ts p.1 r.1)
    ]

-- what is told of schemas is told of one of them
pub told_from : (f : Told) (ns : List Node) (p : Place) → Contains (told_among f ns) p → (n : Node) × Contains ns n × (n.steps ≡ p.0) × Contains (f n.at_root n.keyword n.value) p.1
told_from f [] p c = absurd (none_in p c)
told_from f (n ∷ ns) p c =
    elim (Contains-append_cases (told_at f n) (told_among f ns) p c) [
      | inl g ↦ let r = told_here n.steps (f n.at_root n.keyword n.value) p g in (n, first_in n ns, r.0, r.1)
      | inr g ↦ let r = told_from f ns p g in (r.0, rest_in n ns r.0 r.1, r.2, r.3)
    ]

pub told_places_stand : ToldPlacesStand
told_places_stand f v d p c =
    let r = told_from f (schemas_of v) p c in
    (r.0.value, ap (λ l. value_at l v) (sym r.2) ∙ schemas_stand v d r.0 r.1, (r.0.at_root, r.0.keyword, r.3))

-- ---- references

one_part : (o : Option Value) → option_and_then (value_at []) o ≡ o
one_part None = refl
one_part (Some u) = refl

further : (k : List ℕ) (l : Location) (o : Option Value) → option_and_then (value_at (l ++ k ∷ [])) o ≡ option_and_then (part_at k) (option_and_then (value_at l) o)
further k l None = refl
further k [] (Some u) = one_part (part_at k u)
further k (j ∷ l) (Some u) = further k l (part_at j u)

value_at-then : (l : Location) (k : List ℕ) (v w : Value) → value_at l v ≡ Some w → value_at (l ++ k ∷ []) v ≡ part_at k w
value_at-then l k v w e = further k l (Some v) ∙ ap (λ o. option_and_then (part_at k) o) e

pub text_there : (o : Option Value) (q : List ℕ) → Contains (text_in o) q → o ≡ Some (text q)
text_there None q c = absurd (none_in q c)
text_there (Some null) q c = absurd (none_in q c)
text_there (Some (value.boolean b)) q c = absurd (none_in q c)
text_there (Some (number z)) q c = absurd (none_in q c)
text_there (Some fraction) q c = absurd (none_in q c)
text_there (Some (text s)) q c = elim (first_or_rest s [] q c) [ inl e ↦ ap (λ t. Some (text t)) e | inr g ↦ absurd (none_in q g) ]
text_there (Some (list xs)) q c = absurd (none_in q c)
text_there (Some (value.object ms)) q c = absurd (none_in q c)

reference_there : (w : Value) (q : List ℕ) → Contains (references_in w) q → part_at (codes "$ref") w ≡ Some (text q)
reference_there null q c = absurd (none_in q c)
reference_there (value.boolean b) q c = absurd (none_in q c)
reference_there (number z) q c = absurd (none_in q c)
reference_there fraction q c = absurd (none_in q c)
reference_there (text s) q c = absurd (none_in q c)
reference_there (list xs) q c = absurd (none_in q c)
reference_there (value.object ms) q c = text_there (member_at (codes "$ref") ms) q c

pub filtered : (p : List ℕ → Bool) (ts : List (List ℕ)) (t : List ℕ) → Contains (filter p ts) t → Contains ts t × (p t ≡ true)
filtered p [] t c = absurd (none_in t c)
filtered p (s ∷ ts) t c = by_test (p s) refl c (filtered p ts t)
  where
    by_test : (b : Bool) → p s ≡ b → Contains (if b then s ∷ filter p ts else filter p ts) t → (Contains (filter p ts) t → Contains ts t × (p t ≡ true)) → Contains (s ∷ ts) t × (p t ≡ true)
    by_test true h c rest =
        elim (first_or_rest s (filter p ts) t c) [
          | inl e ↦ (subst (Contains (s ∷ ts)) e (first_in s ts), ap p (sym e) ∙ h)
          | inr g ↦ let r = rest g in (rest_in s ts t r.0, r.1)
        ]
    by_test false h c rest = let r = rest c in (rest_in s ts t r.0, r.1)

pub references_stand : ReferencesStand
references_stand = record {
  all = λ v d p c. let r = told_places_stand reference_texts v d p c in value_at-then p.0 (codes "$ref") v r.0 r.1 ∙ reference_there r.0 p.1 r.2.2;
  bad = λ v d p c.
      let r = told_places_stand (bad_reference_texts v) v d p c in
      value_at-then p.0 (codes "$ref") v r.0 r.1 ∙ reference_there r.0 p.1 (filtered (λ q. not (leads v q)) (references_in r.0) p.1 r.2.2).0;
}
