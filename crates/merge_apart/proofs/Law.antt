-- A merge with what stands aside is the merge without it, with what stands aside put back.
use Rattle.std.proofs.Common.{◌≡◌, ℕ, List, Bool, true, false, not, Option, Some, None, is_some, codes, refl, sym, ap, ◌∙◌, subst}
use Rattle.std.specs.Prelude.{◌&&◌, unwrap_or}
use Rattle.std.specs.List.{list_any}
use Rattle.json_value.specs.Value.{null}
use Rattle.schema_defs.specs.Schema.{MemberRules, Plain, Schema, boolean, object, no_same, same_value, Lists, Named, no_named, named, MaybeSchema, no_schema, the_schema, Properties, no_properties, property, Document}
use Rattle.schema_defs.specs.Admits.{counts_as_absent}
use Rattle.enum_defs.specs.Words.{props_of, names_of}
use Rattle.enum_defs.proofs.Tests.{and_left, and_right, both, impossible, not_true}
use Rattle.merge_defs.specs.Alike.{is_absent}
use Rattle.merge_defs.specs.Objects.{two_named}
use Rattle.merge_defs.specs.Outcome.{Outcome, fault, depth, mapped}
use Rattle.merge_walks.specs.Carried.{Walk, root_walk, own_walk, has_more_steps, maybe_inside, names_inside, lists_inside, named_inside, opened}
use Rattle.merge_walks.specs.Made.{longer, settled, settled_named, on_made}
use Rattle.merge_walks.specs.Walked.{walk_of, unless_deep, join_sides, walked_join}
use Rattle.merge_apart.specs.Aside.{Aside, with_aside, with_members, is_settled, are_settled, is_each_once, is_open, names_alone, stands_aside, properties_in, is_apart, merges_apart}
use Rattle.merge_apart.proofs.Bodies.{made_body}
use Rattle.merge_apart.proofs.Members.{members_apart}
use Rattle.merge_apart.proofs.Settling.{inside_named, opened_aside, settled_stays, settled_names}

-- ---- the forms of both sides

-- on its walk, without a reference, subschemas and names by pattern
abbrev first_side : Plain → Walk → Lists → Properties → MaybeSchema → MemberRules → Schema
first_side p w ls ps x c = object (record p { reference = None; walk = Some w }) no_same ls (named ps no_properties x no_schema c)

open_form : (P : Schema → Type 0) (s : Schema) → is_open s ≡ true → ((p : Plain) (w : Walk) (ls : Lists) (ps : Properties) (x : MaybeSchema) (c : MemberRules) → P (first_side p w ls ps x c)) → P s
open_form P (boolean b) h k = impossible h
open_form P (object p (same_value all any one none b) ls ns) h k = impossible h
open_form P (object p no_same ls no_named) h k = impossible h
open_form P (object p no_same ls (named ps (property n s pp) x xn c)) h k = impossible h
open_form P (object p no_same ls (named ps no_properties x (the_schema s) c)) h k = impossible h
open_form P (object p no_same ls (named ps no_properties x no_schema c)) h k = by p.walk p.reference h
  where
    by : (w : Option Walk) (r : Option (List ℕ)) → (is_some w && is_absent r) ≡ true → P (object (record p { reference = r; walk = w }) no_same ls (named ps no_properties x no_schema c))
    by (Some w) None h = k p w ls ps x c
    by (Some w) (Some r) h = impossible h
    by None r h = impossible h

-- of the other the reference alone is known
abbrev other_side : Plain → Lists → Named → Schema
other_side q ms os = object (record q { reference = None }) no_same ms os

abbrev plain_members : Properties → MemberRules → Named
plain_members qs e = named qs no_properties no_schema no_schema e

alone_form : (P : Schema → Type 0) (t : Schema) → names_alone t ≡ true → ((q : Plain) (ms : Lists) → P (other_side q ms no_named)) → ((q : Plain) (ms : Lists) (qs : Properties) (e : MemberRules) → P (other_side q ms (plain_members qs e)))
    → P t
alone_form P (boolean b) h k l = impossible h
alone_form P (object q (same_value all any one none b) ms os) h k l = impossible h
alone_form P (object q no_same ms no_named) h k l = by q.reference h
  where
    by : (r : Option (List ℕ)) → is_absent r ≡ true → P (object (record q { reference = r }) no_same ms no_named)
    by None h = k q ms
    by (Some r) h = impossible h
alone_form P (object q no_same ms (named qs (property n s qq) y yn e)) h k l = impossible h
alone_form P (object q no_same ms (named qs no_properties (the_schema s) yn e)) h k l = impossible h
alone_form P (object q no_same ms (named qs no_properties no_schema (the_schema s) e)) h k l = impossible h
alone_form P (object q no_same ms (named qs no_properties no_schema no_schema e)) h k l = by q.reference h
  where
    by : (r : Option (List ℕ)) → is_absent r ≡ true → P (object (record q { reference = r }) no_same ms (plain_members qs e))
    by None h = l q ms qs e
    by (Some r) h = impossible h

-- ---- the merge

unless_many : {A : Type 0} (f : A → A) (b : Bool) (w : Walk) (o u : Outcome A) → o ≡ mapped f u → (elim b [ true ↦ fault (depth w) | false ↦ o ]) ≡ mapped f (elim b [ true ↦ fault (depth w) | false ↦ u ])
unless_many f true w o u h = refl
unless_many f false w o u h = h

none_stands : (a : Aside) (s : Schema) → is_apart a s ≡ true → list_any (stands_aside a) (names_of (properties_in s)) ≡ false
none_stands a s h = not_true (list_any (stands_aside a) (names_of (properties_in s))) h

none_inside : (a : Aside) (w : Walk) (ps : Properties) → list_any (stands_aside a) (names_of ps) ≡ false → list_any (stands_aside a) (names_of (names_inside w (codes "properties") ps)) ≡ false
none_inside a w ps h = ap (list_any (stands_aside a)) (inside_named w (codes "properties") ps) ∙ h

module _ (d : Document) (most : ℕ) (join less : Schema → Schema → Outcome Schema) (a : Aside) (p : Plain) (w : Walk) (ls : Lists) (ps : Properties) (x : MaybeSchema) (c : MemberRules) (whole : are_settled a.properties ≡ true) where
  abbrev one : Schema
  one = first_side p w ls ps x c

  -- both are met
  met_apart : (t : Schema) → join_sides d most join less (with_aside a (opened one)) (opened t) ≡ mapped (with_aside a) (join_sides d most join less (opened one) (opened t))
      → walked_join d most join less (with_aside a one) t ≡ mapped (with_aside a) (walked_join d most join less one t)
  met_apart t h =
      let v = walk_of one in
      let u = walk_of t in
      ap (λ z. elim (has_more_steps most v) [ true ↦ fault (depth v) | false ↦ unless_deep most t (join_sides d most join less z) ]) (opened_aside a one whole)
      ∙ unless_many (with_aside a) (has_more_steps most v) v (unless_deep most t (join_sides d most join less (with_aside a (opened one)))) (unless_deep most t (join_sides d most join less (opened one)))
      (unless_many (with_aside a) (has_more_steps most u) u (join_sides d most join less (with_aside a (opened one)) (opened t)) (join_sides d most join less (opened one) (opened t)) h)

  abbrev first_plain : Plain
  first_plain = record p { reference = None; walk = Some w }

  abbrev other_plain : Plain → Plain
  other_plain q = record q { reference = None; walk = Some (unwrap_or q.walk root_walk) }

  abbrev longest : Plain → Walk
  longest q = longer (own_walk first_plain) (own_walk (other_plain q))

  abbrev members_of : Named
  members_of = named_inside (own_walk first_plain) (named ps no_properties x no_schema c)

  -- a side without keywords of members
  bare_apart : (q : Plain) (ms : Lists) → walked_join d most join less (with_aside a one) (other_side q ms no_named) ≡ mapped (with_aside a) (walked_join d most join less one (other_side q ms no_named))
  bare_apart q ms =
      met_apart (other_side q ms no_named)
      (made_body d (on_made (longest q) join) (on_made (longest q) less) first_plain (lists_inside (own_walk first_plain) ls) (other_plain q) (lists_inside (own_walk (record q { reference = None })) ms) no_named a (longest q) members_of whole (λ b. refl))

  named_apart : (q : Plain) (ms : Lists) (qs : Properties) (e : MemberRules) → counts_as_absent d.setting null ≡ false → is_each_once a.properties ≡ true
      → list_any (stands_aside a) (names_of ps) ≡ false → list_any (stands_aside a) (names_of qs) ≡ false
      → walked_join d most join less (with_aside a one) (other_side q ms (plain_members qs e)) ≡ mapped (with_aside a) (walked_join d most join less one (other_side q ms (plain_members qs e)))
  named_apart q ms qs e strict once h k =
      let v = own_walk (record q { reference = None }) in
      let k' = codes "properties" in
      let members = named_inside v (plain_members qs e) in
      met_apart (other_side q ms (plain_members qs e))
      (made_body d (on_made (longest q) join) (on_made (longest q) less) first_plain (lists_inside (own_walk first_plain) ls) (other_plain q) (lists_inside v ms) members a (longest q) members_of whole (λ b.
      subst (λ nulls. two_named (on_made (longest q) join) nulls b (with_members a members_of) members ≡ mapped (with_members a) (two_named (on_made (longest q) join) nulls b members_of members)) (sym strict)
      (members_apart (on_made (longest q) join) b a (names_inside (own_walk first_plain) k' ps) (maybe_inside (own_walk first_plain) (codes "additionalProperties") x) c (names_inside v k' qs) e whole once
      (none_inside a (own_walk first_plain) ps h) (none_inside a v qs k))))

pub merged_apart : (d : Document) (most : ℕ) (join less : Schema → Schema → Outcome Schema) (a : Aside) (s t : Schema)
    → counts_as_absent d.setting null ≡ false → are_settled a.properties ≡ true → is_each_once a.properties ≡ true → merges_apart a s t ≡ true
    → walked_join d most join less (with_aside a s) t ≡ mapped (with_aside a) (walked_join d most join less s t)
merged_apart d most join less a s t strict whole once apart =
    let forms = and_left (is_open s && names_alone t) (is_apart a s && is_apart a t) apart in
    let names = and_right (is_open s && names_alone t) (is_apart a s && is_apart a t) apart in
    open_form (λ s. is_apart a s ≡ true → walked_join d most join less (with_aside a s) t ≡ mapped (with_aside a) (walked_join d most join less s t)) s (and_left (is_open s) (names_alone t) forms)
    (λ p w ls ps x c h.
    alone_form (λ t. is_apart a t ≡ true → walked_join d most join less (with_aside a (first_side p w ls ps x c)) t ≡ mapped (with_aside a) (walked_join d most join less (first_side p w ls ps x c) t)) t
    (and_right (is_open s) (names_alone t) forms) (λ q ms k. bare_apart d most join less a p w ls ps x c whole q ms)
    (λ q ms qs e k.
    named_apart d most join less a p w ls ps x c whole q ms qs e strict once (none_stands a (first_side p w ls ps x c) h) (none_stands a (other_side q ms (plain_members qs e)) k))
    (and_right (is_apart a s) (is_apart a t) names))
    (and_left (is_apart a s) (is_apart a t) names)

-- ---- sides that were made on the way

open_settled : (s : Schema) → is_open s ≡ true → is_settled s ≡ true
open_settled s h = open_form (λ s. is_settled s ≡ true) s h (λ p w ls ps x c. refl)

settled_both : (a : Aside) (s : Schema) → is_open s ≡ true → is_settled (with_aside a s) ≡ true
settled_both a s h = open_form (λ s. is_settled (with_aside a s) ≡ true) s h (λ p w ls ps x c. refl)

alone_settled : (w : Walk) (t : Schema) → names_alone t ≡ true → names_alone (settled w t) ≡ true
alone_settled w t h = alone_form (λ t. names_alone (settled w t) ≡ true) t h (λ q ms. bare q ms q.walk) (λ q ms qs e. by q ms qs e q.walk)
  where
    bare : (q : Plain) (ms : Lists) (v : Option Walk) → names_alone (settled w (other_side (record q { walk = v }) ms no_named)) ≡ true
    bare q ms (Some v) = refl
    bare q ms None = refl

    by : (q : Plain) (ms : Lists) (qs : Properties) (e : MemberRules) (v : Option Walk) → names_alone (settled w (other_side (record q { walk = v }) ms (plain_members qs e))) ≡ true
    by q ms qs e (Some v) = refl
    by q ms qs e None = refl

-- the names stay
settled_in : (w : Walk) (t : Schema) → names_of (properties_in (settled w t)) ≡ names_of (properties_in t)
settled_in w (boolean b) = refl
settled_in w (object q tt' ms os) = by q.walk
  where
    here : (os : Named) → names_of (props_of (settled_named w os)) ≡ names_of (props_of os)
    here no_named = refl
    here (named qs qq y yn e) = settled_names w qs

    by : (v : Option Walk) → names_of (properties_in (settled w (object (record q { walk = v }) tt' ms os))) ≡ names_of (props_of os)
    by (Some v) = refl
    by None = here os

apart_settled : (a : Aside) (w : Walk) (t : Schema) → is_apart a t ≡ true → is_apart a (settled w t) ≡ true
apart_settled a w t h = ap (λ ns. not (list_any (stands_aside a) ns)) (settled_in w t) ∙ h

pub made_apart : (d : Document) (most : ℕ) (join less : Schema → Schema → Outcome Schema) (w : Walk) (a : Aside) (s t : Schema)
    → counts_as_absent d.setting null ≡ false → are_settled a.properties ≡ true → is_each_once a.properties ≡ true → merges_apart a s t ≡ true
    → on_made w (walked_join d most join less) (with_aside a s) t ≡ mapped (with_aside a) (on_made w (walked_join d most join less) s t)
made_apart d most join less w a s t strict whole once apart =
    let forms = and_left (is_open s && names_alone t) (is_apart a s && is_apart a t) apart in
    let names = and_right (is_open s && names_alone t) (is_apart a s && is_apart a t) apart in
    let opens = and_left (is_open s) (names_alone t) forms in
    (λ i. walked_join d most join less (settled_stays w (with_aside a s) (settled_both a s opens) i) (settled w t))
    ∙ merged_apart d most join less a s (settled w t) strict whole once
    (both (is_open s && names_alone (settled w t)) (is_apart a s && is_apart a (settled w t)) (both (is_open s) (names_alone (settled w t)) opens (alone_settled w t (and_right (is_open s) (names_alone t) forms)))
    (both (is_apart a s) (is_apart a (settled w t)) (and_left (is_apart a s) (is_apart a t) names) (apart_settled a w t (and_right (is_apart a s) (is_apart a t) names))))
    ∙ ap (λ z. mapped (with_aside a) (walked_join d most join less z (settled w t))) (sym (settled_stays w s (open_settled s opens)))
