-- Schemas counted one after another.
use Rattle.std.proofs.Common.{◌≡◌, ℕ, suc, ◌+◌, ◌<◌, ◌≤◌, List, [], ◌∷◌, drop, drop-cons, length, get_or, String, sym, ap, ◌∙◌, arith}
use Rattle.std.specs.declared.alloc.Global.{Global}
use Rattle.std.proofs.lemmas.List.{drop_all}
use Rattle.schema_defs.specs.Schema.{schemas}
use Rattle.schema_defs.specs.Counts.{schema_nodes, schemas_nodes, properties_nodes}
use Rattle.schema_types.specs.declared.schema.Schema.{Schema}
use Rattle.schema_types.specs.View.{schema_view, schemas_view, properties_view}

abbrev pub listed : List Schema → ℕ
listed ss = schemas_nodes (schemas (schemas_view ss))

pub one_listed : (ss : List Schema) (i : ℕ) (s : Schema) (old one new w : ℕ) → i < length ss → s ≡ get_or ss i s → one ≡ schema_nodes (schema_view s) → new ≡ old + one → old + listed (drop i ss) ≡ w → new + listed (drop (i + 1) ss) ≡ w
one_listed ss i s old one new w h e k n was =
    let here : listed (drop i ss) ≡ schema_nodes (schema_view s) + listed (drop (i + 1) ss) =
    ap listed (drop-cons ss i s h) ∙ ap (λ y. schema_nodes (schema_view y) + listed (drop (suc i) ss)) (sym e)
    ∙ ap (λ m. schema_nodes (schema_view s) + listed (drop m ss)) (let q : suc i ≡ i + 1 = omega arith in q) in
    omega (arith, here, k, n, was)

pub all_listed : (ss : List Schema) (i old w : ℕ) → length ss ≤ i → old + listed (drop i ss) ≡ w → old ≡ w
all_listed ss i old w h was =
    let none : listed (drop i ss) ≡ 0 = ap listed (drop_all i ss h) in
    omega (arith, none, was)

abbrev Entry : Type 0
Entry = String Global × Schema

abbrev pub named : List Entry → ℕ
named es = properties_nodes (properties_view es)

pub one_named : (left rest : List Entry) (e : Entry) (old one new w : ℕ) → left ≡ e ∷ rest → one ≡ schema_nodes (schema_view e.1) → new ≡ old + one → old + named left ≡ w → new + named rest ≡ w
one_named left rest e old one new w l k n was =
    let here : named left ≡ schema_nodes (schema_view e.1) + named rest = ap named l in
    omega (arith, here, k, n, was)

pub all_named : (left : List Entry) (old w : ℕ) → left ≡ [] → old + named left ≡ w → old ≡ w
all_named left old w l was =
    let none : named left ≡ 0 = ap named l in
    omega (arith, none, was)
