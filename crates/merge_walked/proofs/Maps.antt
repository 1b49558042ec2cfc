-- A map of schemas that is made anew, entry by entry, in its order.
use Rattle.std.proofs.Common.{◌≡◌, ℕ, List, [], ◌∷◌, ◌++◌, map, String, Global, string_bytes, string_cmp, refl, sym, ap, ◌∙◌, subst, append_assoc}
use Rattle.std.proofs.lemmas.List.{map-append}
use Rattle.std.specs.List.Sorted.{IsStrictlySortedBy}
use Rattle.std.specs.Map.{keys_of}
use Rattle.std.specs.BTreeMap.{insert_entry}
use Rattle.schema_defs.specs.Location.{Step}
use Rattle.schema_defs.specs.Schema.{Schema, Properties, no_properties, property}
use Rattle.schema_types.specs.View.{schema_view, properties_view}
use Rattle.schema_types.specs.declared.schema.Schema as tree
use Rattle.schema_types.proofs.Entries.{Entry, entry_last}
use Rattle.merge_walks.specs.Carried.{Walk, to_child, carried, names_inside}
use Rattle.merge_walks.specs.Made.{settled, settled_properties}

-- what is made of each
abbrev pub each : (List ℕ → Schema → Schema) → Properties → Properties
each g no_properties = no_properties
each g (property n s ps) = property n (g n s) (each g ps)

abbrev pub on_its_walk : Walk → Step → List ℕ → Schema → Schema
on_its_walk w k n s = carried (to_child w (k ∷ n ∷ [])) s

abbrev pub as_settled : Walk → List ℕ → Schema → Schema
as_settled w n s = settled w s

pub inside_each : (w : Walk) (k : Step) (ps : Properties) → names_inside w k ps ≡ each (on_its_walk w k) ps
inside_each w k no_properties = refl
inside_each w k (property n s ps) = ap (property n (on_its_walk w k n s)) (inside_each w k ps)

pub settled_each : (w : Walk) (ps : Properties) → settled_properties w ps ≡ each (as_settled w) ps
settled_each w no_properties = refl
settled_each w (property n s ps) = ap (property n (settled w s)) (settled_each w ps)

-- ---- one more entry

abbrev and_last : Properties → List ℕ → Schema → Properties
and_last no_properties n s = property n s no_properties
and_last (property m t ps) n s = property m t (and_last ps n s)

view_last : (es : List Entry) (e : Entry) → properties_view (es ++ e ∷ []) ≡ and_last (properties_view es) (string_bytes e.0) (schema_view e.1)
view_last [] e = refl
view_last (d ∷ es) e = ap (property (string_bytes d.0) (schema_view d.1)) (view_last es e)

each_last : (g : List ℕ → Schema → Schema) (ps : Properties) (n : List ℕ) (s : Schema) → each g (and_last ps n s) ≡ and_last (each g ps) n (g n s)
each_last g no_properties n s = refl
each_last g (property m t ps) n s = ap (property m (g m t)) (each_last g ps n s)

keys_alike : (made done : List Entry) (d e : Entry) (left : List Entry) → keys_of made ≡ keys_of done → d.0 ≡ e.0 → keys_of (made ++ d ∷ left) ≡ keys_of (done ++ e ∷ left)
keys_alike made done d e left h n =
    map-append (λ (x : Entry). x.0) made (d ∷ left) ∙ (λ i. h i ++ n i ∷ keys_of left) ∙ sym (map-append (λ (x : Entry). x.0) done (e ∷ left))

-- ---- a loop over the entries

-- what is made so far, of those that are done
pub record Follows (g : List ℕ → Schema → Schema) (whole copies left : List Entry) : Type 0 where
  pub done : List Entry
  pub made : List Entry
  pub all : whole ≡ done ++ left
  pub keys : keys_of made ≡ keys_of done
  pub seen : properties_view copies ≡ properties_view made
  pub value : properties_view made ≡ each g (properties_view done)

pub begins_map : (g : List ℕ → Schema → Schema) (whole copies left : List Entry) → copies ≡ [] → left ≡ whole → Follows g whole copies left
begins_map g whole copies left e h = record { done = []; made = []; all = sym h; keys = refl; seen = ap properties_view e; value = refl }

pub one_more : (g : List ℕ → Schema → Schema) (whole copies before left : List Entry) (key : String Global) (s : tree.Schema) (e : Entry)
    → Follows g whole copies before → before ≡ e ∷ left → IsStrictlySortedBy string_cmp (keys_of whole) → string_bytes key ≡ string_bytes e.0 → schema_view s ≡ g (string_bytes e.0) (schema_view e.1)
    → Follows g whole (insert_entry string_cmp copies key s) left
one_more g whole copies before left key s e f h sorted named value =
    let d : Entry = (e.0, s) in
    let all : whole ≡ f.done ++ e ∷ left = f.all ∙ ap (λ es. f.done ++ es) h in
    let keys : keys_of (f.made ++ d ∷ left) ≡ keys_of (f.done ++ e ∷ left) = keys_alike f.made f.done d e left f.keys refl in
    let rising : IsStrictlySortedBy string_cmp (keys_of (f.made ++ d ∷ left)) = subst (IsStrictlySortedBy string_cmp) (ap keys_of all ∙ sym keys) sorted in
    record {
      done = f.done ++ e ∷ [];
      made = f.made ++ d ∷ [];
      all = all ∙ sym (append_assoc f.done (e ∷ []) left);
      keys = keys_alike f.made f.done d e [] f.keys refl;
      seen = entry_last copies f.made key s d left f.seen named refl rising;
      value = view_last f.made d ∙ (λ i. and_last (f.value i) (string_bytes e.0) (value i)) ∙ sym (each_last g (properties_view f.done) (string_bytes e.0) (schema_view e.1)) ∙ sym (ap (each g) (view_last f.done e));
    }

nothing_left : (done : List Entry) → done ++ [] ≡ done
nothing_left [] = refl
nothing_left (d ∷ ds) = ap (λ es. d ∷ es) (nothing_left ds)

pub ends_map : (g : List ℕ → Schema → Schema) (whole copies left : List Entry) → Follows g whole copies left → left ≡ [] → properties_view copies ≡ each g (properties_view whole)
ends_map g whole copies left f h = f.seen ∙ f.value ∙ ap (λ es. each g (properties_view es)) (sym (nothing_left f.done) ∙ sym (f.all ∙ ap (λ es. f.done ++ es) h))
