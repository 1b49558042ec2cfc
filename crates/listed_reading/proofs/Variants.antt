-- Variants one by one.
use Rattle.std.proofs.Common.{◌≡◌, ℕ, suc, ◌+◌, ◌<◌, ◌≤◌, ◌||◌, Bool, true, false, List, ◌∷◌, length, get_or, drop, Option, Vec, Global, sym, ap, ◌∙◌, arith}
use Rattle.std.proofs.Math.Seq.{drop-cons}
use Rattle.std.proofs.lemmas.List.{at_drop_all}
use Rattle.std.specs.List.{list_any}
use Rattle.json_value.specs.Value.{Value}
use Rattle.schema_defs.specs.Texts.{Relations}
use Rattle.model_defs.specs.Model.{TagModel, external_tag}
use Rattle.entry_defs.specs.Entry.{VariantEntry, Contents, variants_of}
use Rattle.entry_defs.specs.Layer.{contents_entry, is_unit_named, variant_named}
use Rattle.entry_defs.specs.Table.{Table}
use Rattle.listed_reading.specs.Followed.{following, takes_in}
use Rattle.naming_defs.specs.Names.{name_by}
use Rattle.tree_types.specs.View.{label_view, contents_view, variants_view, parts_of, cases_of}
use Rattle.tree_types.specs.declared.tree.FieldHead.{FieldHead}
use Rattle.tree_types.specs.declared.tree.VariantHead.{VariantHead}
use Rattle.tree_types.specs.declared.tree.Tree.{Tree}

abbrev pub Variant : Type 0
Variant = VariantHead × Vec (FieldHead × Option Tree) Global

abbrev pub listed : TagModel → List Variant → List VariantEntry
listed tag ws = variants_of (variants_view tag (cases_of ws))

abbrev pub content : Variant → Contents
content w = contents_view w.0.kind (parts_of w.1.items)

abbrev entry : TagModel → Variant → VariantEntry
entry tag w = record { identifier = label_view w.0.label; name = name_by tag (label_view w.0.label) w.0.label.wanted.now; contents = content w }

-- the next, and the others
next : (tag : TagModel) (xs ys : List Variant) (i : ℕ) (w : Variant) → xs ≡ ys → i < length xs → w ≡ get_or xs i w → listed tag (drop i ys) ≡ entry tag w ∷ listed tag (drop (i + 1) ys)
next tag xs ys i w e h k =
    ap (λ zs. listed tag (drop i zs)) (sym e)
    ∙ ap (listed tag) (drop-cons xs i w h)
    ∙ ap (λ z. entry tag z ∷ listed tag (drop (suc i) xs)) (sym k)
    ∙ ap (λ n. entry tag w ∷ listed tag (drop n xs)) (let q : suc i ≡ i + 1 = omega arith in q)
    ∙ ap (λ zs. entry tag w ∷ listed tag (drop (i + 1) zs)) e

-- ---- names

module _ (s : List ℕ) where
  abbrev pub unit_in : List Variant → Bool
  unit_in ws = is_unit_named (variant_named s (listed external_tag ws))

-- ---- what is taken

module _ (t : Table) (left : ℕ) (r : Relations) (v : Value) where
  abbrev pub some_in : ℕ → TagModel → Bool → List Variant → Bool
  some_in m tag closed ws = list_any (λ w. takes_in (following t left m) r (contents_entry closed w.contents) v) (listed tag ws)

  pub taken_found : (p : Relations) (xs ys : List Variant) (i : ℕ) (w : Variant) (b : Bool) → p ≡ r → xs ≡ ys → i < length xs → w ≡ get_or xs i w → b ≡ true
      → ((m : ℕ) (tag : TagModel) (closed : Bool) → some_in m tag closed ys ≡ some_in m tag closed (drop i ys))
      → ((m : ℕ) (closed : Bool) → takes_in (following t left m) p (contents_entry closed (content w)) v ≡ b)
      → (m : ℕ) (tag : TagModel) (closed : Bool) → some_in m tag closed ys ≡ true
  taken_found p xs ys i w b same e h k q rest found m tag closed =
      rest m tag closed
      ∙ ap (list_any (λ z. takes_in (following t left m) r (contents_entry closed z.contents) v)) (next tag xs ys i w e h k)
      ∙ ap (λ z. takes_in (following t left m) z (contents_entry closed (content w)) v || some_in m tag closed (drop (i + 1) ys)) (sym same)
      ∙ ap (λ c. c || some_in m tag closed (drop (i + 1) ys)) (found m closed ∙ q)

  pub taken_none : (xs ys : List Variant) (i : ℕ) → xs ≡ ys → length xs ≤ i
      → ((m : ℕ) (tag : TagModel) (closed : Bool) → some_in m tag closed ys ≡ some_in m tag closed (drop i ys))
      → (m : ℕ) (tag : TagModel) (closed : Bool) → some_in m tag closed ys ≡ false
  taken_none xs ys i e h rest m tag closed =
      rest m tag closed ∙ ap (λ zs. some_in m tag closed (drop i zs)) (sym e) ∙ at_drop_all (some_in m tag closed) xs i h
