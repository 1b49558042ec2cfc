-- Objects by their properties, and the names that are required.
use Rattle.std.proofs.Common.{◌≡◌, ℕ, suc, List, [], ◌∷◌, ◌++◌, map, length, Bool, true, false, IsTrue, ◌↔◌, Option, Some, None, codes, refl, sym, ap, ◌∙◌, append_assoc, String, string_bytes, true≢false, arith}
use Rattle.std.specs.declared.alloc.Global.{Global}
use Rattle.std.proofs.lemmas.List.{append-nil, map-append}
use Rattle.serde_json.specs.declared.value.Value as value'
use Rattle.json_value.specs.Value.{Value, Members, text, list, items, item, object, member, members}
use Rattle.json_value.specs.View.{kept_view}
use Rattle.schema_defs.specs.Build.{◌≔◌, str}
use Rattle.model_defs.specs.Settled.{put}
use Rattle.describe_defs.specs.Written.{members_value, texts_of_names}
use Rattle.described_types.specs.Seen.{kept_items}
use Rattle.value_writing.specs.Seen.{kept_members}
use Rattle.described_values.specs.Seen.{kept_entry, kept_entries}
use Rattle.described_values.specs.Shown.{object_by, put_rest, put_required}

abbrev Entry : Type 0
Entry = String Global × value'.Value

abbrev pub name_text : Entry → Value
name_text e = text (string_bytes e.0)

abbrev pub names_in : List Entry → List (List ℕ)
names_in es = map (λ e. e.0) (kept_entries es)

pub name_more : (left rest : List Entry) (e : Entry) (old new : List value'.Value) (v : value'.Value) (w : List Value) → left ≡ e ∷ rest → kept_view v ≡ text (string_bytes e.0) → new ≡ old ++ v ∷ []
    → map kept_view old ++ map name_text left ≡ w → map kept_view new ++ map name_text rest ≡ w
name_more left rest e old new v w l k n was =
    ap (λ vs. map kept_view vs ++ map name_text rest) n ∙ ap (λ ys. ys ++ map name_text rest) (map-append kept_view old (v ∷ []))
    ∙ append_assoc (map kept_view old) (kept_view v ∷ []) (map name_text rest) ∙ ap (λ z. map kept_view old ++ z ∷ map name_text rest) k
    ∙ ap (λ es. map kept_view old ++ map name_text es) (sym l) ∙ was

as_texts : (es : List Entry) → items (map name_text es) ≡ texts_of_names (names_in es)
as_texts [] = refl
as_texts (e ∷ es) = ap (item (name_text e)) (as_texts es)

pub all_names : (es left : List Entry) (vs : List value'.Value) → left ≡ [] → map kept_view vs ++ map name_text left ≡ map name_text es → kept_items vs ≡ texts_of_names (names_in es)
all_names es left vs l was = ap items (sym (append-nil (map kept_view vs)) ∙ ap (λ ys. map kept_view vs ++ map name_text ys) (sym l) ∙ was) ∙ as_texts es

pub no_names : (es : List Entry) (ms : Members) (b : Bool) → (IsTrue b ↔ (length es ≡ 0)) → b ≡ true → ms ≡ put_required (names_in es) ms
no_names [] ms b e h = refl
no_names (x ∷ xs) ms b e h = absurd (omega (arith, e.0 h))

pub some_names : (es : List Entry) (old new : Members) (names : List value'.Value) (v : Value) (b : Bool) → (IsTrue b ↔ (length es ≡ 0)) → b ≡ false → new ≡ put (codes "required") v old
    → v ≡ list (kept_items names) → kept_items names ≡ texts_of_names (names_in es) → new ≡ put_required (names_in es) old
some_names [] old new names v b e f n k h = absurd (true≢false (sym (e.1 refl) ∙ f))
some_names (x ∷ xs) old new names v b e f n k h = n ∙ ap (λ z. put (codes "required") z old) (k ∙ ap list h)

-- ---- objects

abbrev typed_members : Members
typed_members = members ("type" ≔ str "object" ∷ [])

rest_is : (r : Option Value) → object (put_rest r typed_members) ≡ object_by [] [] r
rest_is None = refl
rest_is (Some v) = refl

pub without_properties : (r : Option Value) (old new : Members) → old ≡ typed_members → new ≡ put_rest r old → object new ≡ object_by [] [] r
without_properties r old new o n = ap object (n ∙ ap (put_rest r) o) ∙ rest_is r

all_is : (ps : List (List ℕ × Value)) (ns : List (List ℕ)) (r : Option Value) → object (put_rest r (put (codes "properties") (object (members ps)) (put_required ns typed_members))) ≡ members_value ps ns r
all_is ps [] None = refl
all_is ps [] (Some v) = refl
all_is ps (n ∷ ns) None = refl
all_is ps (n ∷ ns) (Some v) = refl

pub members_seen : (es : List Entry) → kept_members es ≡ members (kept_entries es)
members_seen [] = refl
members_seen (e ∷ es) = ap (member (string_bytes e.0) (kept_view e.1)) (members_seen es)

pub with_properties : (ps : List Entry) (ns : List (List ℕ)) (r : Option Value) (one two three four : Members) (v : Value) → one ≡ typed_members → two ≡ put_required ns one → three ≡ put (codes "properties") v two
    → v ≡ object (kept_members ps) → four ≡ put_rest r three → object four ≡ members_value (kept_entries ps) ns r
with_properties ps ns r one two three four v a b c d e =
    ap object (e ∙ ap (put_rest r) (c ∙ ap (λ z. put (codes "properties") z two) (d ∙ ap object (members_seen ps)) ∙ ap (put (codes "properties") (object (members (kept_entries ps)))) (b ∙ ap (put_required ns) a)))
    ∙ all_is (kept_entries ps) ns r

pub by_none : (ps : List Entry) (ns : List (List ℕ)) (r : Option Value) (v : Value) (b : Bool) → (IsTrue b ↔ (length ps ≡ 0)) → b ≡ true → v ≡ object_by [] [] r → v ≡ object_by (kept_entries ps) ns r
by_none [] ns r v b e h k = k
by_none (x ∷ xs) ns r v b e h k = absurd (omega (arith, e.0 h))

pub by_properties : (ps : List Entry) (ns : List (List ℕ)) (r : Option Value) (v : Value) (b : Bool) → (IsTrue b ↔ (length ps ≡ 0)) → b ≡ false → v ≡ members_value (kept_entries ps) ns r → v ≡ object_by (kept_entries ps) ns r
by_properties [] ns r v b e f k = absurd (true≢false (sym (e.1 refl) ∙ f))
by_properties (x ∷ xs) ns r v b e f k = k
