-- What the metas of emitted fields and variants do.
use Rattle.std.proofs.Common.{◌≡◌, ℕ, List, [], ◌∷◌, ◌++◌, map, Bool, true, false, refl, ap, ◌∙◌, codes, cond, bytes_eq}
use Rattle.std.specs.Prelude.{Result}
use Rattle.token_trees.specs.Token.{Tok, fixed, text, Name, site}
use Rattle.syntax_trees.specs.Syntax.{ExprPathD}
use Rattle.syntax_trees.specs.Item.{FieldD, VariantD}
use Rattle.syntax_trees.specs.declared.cursor.SyntaxError.{SyntaxError}
use Rattle.syntax_printing.specs.Print.{sign, keyword}
use Rattle.attr_parts.specs.Values.{own_default, path_default}
use Rattle.attr_defs.specs.Acts.{ActD, ValueD, sets, offers, adds, is_name, is_default, is_function}
use Rattle.attr_defs.specs.Owners.{of_variant, of_field, whole, written, read}
use Rattle.attr_defs.specs.Rows.{no_path, path_default_set, set_maybe, excess, unless_ended, acts_of, all_acts}
use Rattle.attr_defs.specs.Steps.{Step, does, ◌>>=◌}
use Rattle.attr_defs.specs.Texts.{lexed, parsed_by}
use Rattle.schema_defs.specs.Location.{place}
use Rattle.emit_defs.specs.Models as manners
use Rattle.emit_defs.specs.Models.{Empty, empty_option, Manner, plain, defaulted, skipped, held}
use Rattle.emit_defs.specs.Trees.{Carried, valued, serde, name_at, empty_path, skip_meta, rename_metas, manner_metas}
use Rattle.emit_texts.specs.Laws.{literal, some_function, whole_function, default_function, empty_function, FunctionsAreRead}
use Rattle.emit_laws.proofs.Metas.{as_part, acts_read}

-- ---- names

abbrev pub rename_acts : Bool → List ℕ → List ActD
rename_acts true x = []
rename_acts false x = sets (written (codes "rename")) site (is_name (name_at x)) ∷ offers (read (codes "rename")) (is_name (name_at x)) ∷ adds (name_at x) ∷ []

-- ---- fields

abbrev default_at : ValueD → ActD
default_at v = sets (whole (codes "default")) site v

abbrev read_by : ExprPathD → ActD
read_by p = sets (whole (codes "deserialize_with")) site (is_function p)

abbrev left_out_by : Empty → ActD
left_out_by x = sets (whole (codes "skip_serializing_if")) site (is_function (empty_function x))

abbrev pub manner_acts : ℕ → Manner → List ActD
manner_acts n plain = []
manner_acts n manners.whole = read_by whole_function ∷ []
manner_acts n defaulted = default_at (is_default (path_default (default_function n))) ∷ []
manner_acts n (skipped x) = default_at (is_default own_default) ∷ left_out_by x ∷ []
manner_acts n held = default_at (is_default own_default) ∷ read_by some_function ∷ left_out_by empty_option ∷ []

-- what a meta with a function does, before others, where its text is read so
abbrev function_acts : List ℕ → List ℕ → List ActD → Result ExprPathD SyntaxError → List ActD
function_acts name x more r =
    let s : Step (List Tok) = (parsed_by (no_path (literal x)) site r >>= (λ t. does (set_maybe (whole name) site is_function t) [])) >>= excess in
    s.acts ++ unless_ended s.value more

module _ (functions : FunctionsAreRead) (f : FieldD) (own : Name) where
  abbrev acts_in : List Carried → List ActD
  acts_in ms = acts_of lexed (of_field f own) (map as_part ms)

  abbrev default_acts : List ℕ → Result ExprPathD SyntaxError → List ActD
  default_acts x r =
      let s : Step (List Tok) = (parsed_by (no_path (literal x)) site r >>= (λ t. does (path_default_set (of_field f own) (codes "default") (keyword (codes "default") ∷ []) (sign 61 ∷ fixed (text x []) site ∷ []) t) [])) >>= excess in
      s.acts ++ unless_ended s.value []

  left_out_read : (x : Empty) → acts_in (skip_meta x ∷ []) ≡ left_out_by x ∷ []
  left_out_read x = ap (function_acts (codes "skip_serializing_if") (empty_path x) []) (functions.empty x)

  pub manner_read : (n : ℕ) (m : Manner) → acts_in (manner_metas n m) ≡ manner_acts n m
  manner_read n plain = refl
  manner_read n manners.whole = ap (function_acts (codes "deserialize_with") (codes "typify_present::whole") []) functions.whole
  manner_read n defaulted = ap (default_acts (codes "typify_defaults::d" ++ place n)) (functions.default n)
  manner_read n (skipped x) = ap (λ z. default_at (is_default own_default) ∷ z) (left_out_read x)
  manner_read n held =
      ap (λ r. default_at (is_default own_default) ∷ function_acts (codes "deserialize_with") (codes "typify_present::some") (acts_in (skip_meta empty_option ∷ [])) r) functions.some
      ∙ ap (λ z. default_at (is_default own_default) ∷ read_by some_function ∷ z) (left_out_read empty_option)

  -- with the name in front
  named_read : (b : Bool) (i x : List ℕ) (ms : List Carried) → bytes_eq i x ≡ b → acts_in (rename_metas i x ++ ms) ≡ rename_acts b x ++ acts_in ms
  named_read true i x ms e = ap (λ b. acts_in (cond b [] (valued (codes "rename") x ∷ []) ++ ms)) e
  named_read false i x ms e = ap (λ b. acts_in (cond b [] (valued (codes "rename") x ∷ []) ++ ms)) e

  pub field_read : (b : Bool) (i x : List ℕ) (n : ℕ) (m : Manner) → bytes_eq i x ≡ b
      → all_acts lexed (of_field f own) (serde (rename_metas i x ++ manner_metas n m)) ≡ rename_acts b x ++ manner_acts n m
  field_read b i x n m e =
      acts_read lexed (of_field f own) (rename_metas i x ++ manner_metas n m)
      ∙ named_read b i x (manner_metas n m) e
      ∙ ap (λ z. rename_acts b x ++ z) (manner_read n m)

-- ---- variants carry a name alone

pub variant_read : (v : VariantD) (b : Bool) (i x : List ℕ) → bytes_eq i x ≡ b → all_acts lexed (of_variant v) (serde (rename_metas i x)) ≡ rename_acts b x
variant_read v true i x e = acts_read lexed (of_variant v) (rename_metas i x) ∙ ap (λ b. acts_of lexed (of_variant v) (map as_part (cond b [] (valued (codes "rename") x ∷ [])))) e
variant_read v false i x e = acts_read lexed (of_variant v) (rename_metas i x) ∙ ap (λ b. acts_of lexed (of_variant v) (map as_part (cond b [] (valued (codes "rename") x ∷ [])))) e
