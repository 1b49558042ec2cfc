-- A name that comes after all names of a map goes last.
use Rattle.std.proofs.Common.{◌≡◌, List, [], ◌∷◌, ◌++◌, String, Global, Ordering, Less, Equal, Greater, string_bytes, string_cmp, length, refl, sym, ap, ◌∙◌, true, false, true≢false, arith}
use Rattle.std.specs.Prelude.{◌↔◌, ◌<◌}
use Rattle.std.specs.Ordering.{is_lt, ordering_reverse}
use Rattle.std.specs.String.{string_cmp_total}
use Rattle.std.specs.List.{All, AllByRecursion}
use Rattle.std.specs.Map.{keys_of}
use Rattle.std.specs.BTreeMap.{insert_entry}
use Rattle.std.proofs.lemmas.List.Elements.{recursion_from_All}
use Rattle.schema_defs.specs.Schema.{property}
use Rattle.schema_types.specs.declared.schema.Schema as tree
use Rattle.schema_types.specs.View.{schema_view, properties_view}
use Rattle.merge_members.specs.Plans.{and_last}

abbrev Entry : Type 0
Entry = String Global × tree.Schema

-- what is not above the last is below the name
below : (l q k : String Global) (o : Ordering) → string_cmp l q ≡ o → is_lt o ≡ false → string_cmp l k ≡ Less → string_cmp q k ≡ Less
below l q k Less e h a = absurd (true≢false h)
below l q k Equal e h a = sym (string_cmp_total.congr l q k e) ∙ a
below l q k Greater e h a = string_cmp_total.trans q l k (string_cmp_total.antisymm q l ∙ ap ordering_reverse e) a

insert_last : (l k : String Global) (es : List Entry) (s : tree.Schema) → string_cmp l k ≡ Less → AllByRecursion (λ q. is_lt (string_cmp l q) ≡ false) (keys_of es)
    → insert_entry string_cmp es k s ≡ es ++ (k, s) ∷ []
insert_last l k [] s a h = refl
insert_last l k (e ∷ es) s a h =
    let above : string_cmp k e.0 ≡ Greater = string_cmp_total.antisymm k e.0 ∙ ap ordering_reverse (below l e.0 k (string_cmp l e.0) refl h.0 a) in
    rw above (ap (λ xs. e ∷ xs) (insert_last l k es s a h.1))

less_of : (o : Ordering) → is_lt o ≡ true → o ≡ Less
less_of Less h = refl
less_of Equal h = cc
less_of Greater h = cc

pub last_of_some : (l k : String Global) (es : List Entry) (s : tree.Schema) → All (λ q. is_lt (string_cmp l q) ≡ false) (keys_of es) → is_lt (string_cmp l k) ≡ true
    → insert_entry string_cmp es k s ≡ es ++ (k, s) ∷ []
last_of_some l k es s h b = insert_last l k es s (less_of (string_cmp l k) b) (recursion_from_All _ (keys_of es) h)

pub last_of_none : (k : String Global) (es : List Entry) (s : tree.Schema) → ((false ≡ true) ↔ (0 < length es)) → insert_entry string_cmp es k s ≡ es ++ (k, s) ∷ []
last_of_none k [] s h = refl
last_of_none k (e ∷ es) s h = let n : 0 < length (e ∷ es) = omega arith in absurd (true≢false (sym (h.1 n)))

pub view_last : (es : List Entry) (e : Entry) → properties_view (es ++ e ∷ []) ≡ and_last (properties_view es) (string_bytes e.0) (schema_view e.1)
view_last [] e = refl
view_last (d ∷ es) e = ap (property (string_bytes d.0) (schema_view d.1)) (view_last es e)
