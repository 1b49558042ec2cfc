-- Ways down the schemas that judge the same value.
use Rattle.std.proofs.Common.{◌≡◌, ℕ, suc, ◌<◌, ◌≤◌, List, [], ◌∷◌, ◌++◌, map, length, drop, get_or, Bool, false, sym, ap, ◌∙◌, subst, inl, inr, arith, true≢false, eq-eqb}
use Rattle.std.specs.Prelude.{Contains, codes, reverse}
use Rattle.std.proofs.lemmas.List.{drop_all, reverse-append}
use Rattle.std.proofs.lemmas.List.Elements.{Contains-append_cases, Contains-get_or}
use Rattle.schema_defs.specs.Location.{Step, Location, place}
use Rattle.schema_defs.specs.Schema.{Schema, boolean, object, Same, no_same, same_value, MaybeSchema, no_schema, the_schema, MaybeSchemas, no_list, the_list, Schemas, no_more, schema}
use Rattle.schema_defs.specs.Children as defs
use Rattle.schema_defs.specs.Children.{reference_of, children_of_maybe, children_from, children_of_list, children_of_same, same_children}
use Rattle.schema_defs.specs.Counts.{schema_nodes, same_nodes, maybe_nodes, maybe_list_nodes, schemas_nodes}
use Rattle.schema_defs.proofs.Stand.{none_in, first_or_rest}
use Rattle.schema_defs.proofs.Guarded.{in_map}
use Rattle.schema_types.specs.View.{schema_view}
use Rattle.schema_guards.proofs.Inner.{InChild, own_or_child}
use Rattle.schema_loops.specs.declared.children.Child.{Child}
use Rattle.schema_loops.specs.Child.{child_view}
use Rattle.schema_loops.specs.Way.{has_number, IsWay, HasWay, LacksNumber}

-- ---- a child has fewer schemas in it

nodes_from : (w : Step) (i : ℕ) (ss : Schemas) (c : defs.Child) → Contains (children_from w i ss) c → schema_nodes c.1 ≤ schemas_nodes ss
nodes_from w i no_more c h = absurd (none_in c h)
nodes_from w i (schema s ss) c h = elim (first_or_rest (w ∷ place i ∷ [], s) (children_from w (suc i) ss) c h) [
  | inl e ↦ let n = ap (λ c. schema_nodes c.1) e in omega arith
  | inr g ↦ let n = nodes_from w (suc i) ss c g in omega arith
]

nodes_list : (w : Step) (m : MaybeSchemas) (c : defs.Child) → Contains (children_of_list w m) c → schema_nodes c.1 ≤ maybe_list_nodes m
nodes_list w no_list c h = absurd (none_in c h)
nodes_list w (the_list ss) c h = nodes_from w 0 ss c h

nodes_maybe : (w : Step) (m : MaybeSchema) (c : defs.Child) → Contains (children_of_maybe w m) c → schema_nodes c.1 ≤ maybe_nodes m
nodes_maybe w no_schema c h = absurd (none_in c h)
nodes_maybe w (the_schema s) c h = elim (first_or_rest (w ∷ [], s) [] c h) [
  | inl e ↦ let n = ap (λ c. schema_nodes c.1) e in omega arith
  | inr g ↦ absurd (none_in c g)
]

nodes_same : (ss : Same) (c : defs.Child) → Contains (children_of_same ss) c → schema_nodes c.1 ≤ same_nodes ss
nodes_same no_same c h = absurd (none_in c h)
nodes_same (same_value all any one none conditional) c h =
    let a = children_of_list (codes "allOf") all in
    let b = children_of_list (codes "anyOf") any in
    let o = children_of_list (codes "oneOf") one in
    elim (Contains-append_cases (a ++ b ++ o) (children_of_maybe (codes "not") none) c h) [
      | inr g ↦ let n = nodes_maybe (codes "not") none c g in omega arith
      | inl k ↦ elim (Contains-append_cases (a ++ b) o c k) [
        | inr g ↦ let n = nodes_list (codes "oneOf") one c g in omega arith
        | inl k ↦ elim (Contains-append_cases a b c k) [
          | inr g ↦ let n = nodes_list (codes "anyOf") any c g in omega arith
          | inl g ↦ let n = nodes_list (codes "allOf") all c g in omega arith
        ]
      ]
    ]

fewer : (s : Schema) (c : defs.Child) → Contains (same_children s) c → schema_nodes c.1 < schema_nodes s
fewer (boolean b) c h = absurd (none_in c h)
fewer (object p ss ls ns) c h = let n = nodes_same ss c h in omega arith

-- ---- the child at a place

pub item_in : (s : Schema) (xs ys : List Child) (i : ℕ) (x : Child) → ys ≡ xs → map child_view xs ≡ same_children s → i < length ys → x ≡ get_or ys i x → Contains (same_children s) (child_view x)
item_in s xs ys i x e h lt k =
    let inside : Contains ys x = subst (λ y. Contains ys y) (sym k) (Contains-get_or ys i x lt) in
    subst (λ cs. Contains cs (child_view x)) (ap (map child_view) e ∙ h) (in_map child_view ys x inside)

pub item_fewer : (s : Schema) (xs ys : List Child) (i : ℕ) (x : Child) → ys ≡ xs → map child_view xs ≡ same_children s → i < length ys → x ≡ get_or ys i x → schema_nodes (schema_view x.schema.now) < schema_nodes s
item_fewer s xs ys i x e h lt k = fewer s (child_view x) (item_in s xs ys i x e h lt k)

-- ---- ways

reverse_end : (ks : List Location) (k : Location) → reverse (ks ++ k ∷ []) ≡ k ∷ reverse ks
reverse_end ks k = reverse-append ks (k ∷ [])

pub way_longer : (f : List ℕ → ℕ) (n : ℕ) (s : Schema) (c : defs.Child) (ks js : List Location) (k : Location) → Contains (same_children s) c → HasWay f n c.1 ks → js ≡ ks ++ k ∷ [] → k ≡ c.0 → HasWay f n s js
way_longer f n s c ks js k h w e g = (w.0, w.1, subst (λ ls. IsWay w.0 ls s) (sym (ap reverse e ∙ reverse_end ks k)) (c, h, sym g, w.2))

pub lacks : (f : List ℕ → ℕ) (n : ℕ) (s : Schema) (b : Bool) (xs ys : List Child) (i : ℕ) → b ≡ has_number f n (reference_of s) → b ≡ false → ys ≡ xs → map child_view xs ≡ same_children s
    → ((q : List ℕ) → f q ≡ n → InChild q (map child_view ys) → InChild q (map child_view (drop i ys))) → length ys ≤ i → LacksNumber f n s
lacks f n s b xs ys i e g k h left le q c m = elim (own_or_child q s c) [
  | inl o ↦ true≢false (sym (eq-eqb (f q) n m) ∙ ap (has_number f n) (sym o) ∙ sym e ∙ g)
  | inr x ↦
      let all : InChild q (map child_view ys) = subst (InChild q) (sym (ap (map child_view) k ∙ h)) x in
      let none : InChild q [] = subst (λ ys. InChild q (map child_view ys)) (drop_all i ys le) (left q m all) in
      absurd (none_in none.0 none.1)
]
