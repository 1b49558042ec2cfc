-- What is made of an item once its parts have ids.
use Rattle.std.proofs.Common.{◌≡◌, ℕ, List, Bool, Option, Some, option_map, sym, ap, ◌∙◌}
use Rattle.model_defs.specs.Model.{TagModel, RuleD}
use Rattle.entry_defs.specs.Entry.{Target, State}
use Rattle.entry_defs.specs.Space.{Id, FieldAt, ContentsAt, VariantAt, newtype_shape_at, struct_shape_at, enum_shape_at, Space}
use Rattle.naming_defs.specs.Names.{name_by}
use Rattle.entry_types.specs.declared.entry.TypeId.{TypeId}
use Rattle.entry_types.specs.View.{id_view, rest_at}
use Rattle.entry_space.specs.Entered.{filled}
use Rattle.tree_types.specs.declared.tree.Label.{Label}
use Rattle.tree_types.specs.declared.tree.TreeRule.{TreeRule}
use Rattle.tree_types.specs.declared.tree.Wrap.TheVariants as wraps
use Rattle.tree_types.specs.declared.tree.FieldHead.{FieldHead}
use Rattle.tree_types.specs.declared.tree.VariantHead.{VariantHead}
use Rattle.tree_types.specs.declared.tree.Tree.{Tree}
use Rattle.tree_types.specs.View.{Parts, label_view, rule_view, contents_view, tree_view}
use Rattle.space_trees.specs.Placed.{opened_at, rest_or_first, rest_given, placed_contents}
use Rattle.space_trees.specs.Parts.{part_seen, part_state, placed_variant, resolved, field_at, fields_at, struct_given, struct_filled, wrap_opened, wrap_closed}
use Rattle.space_trees.proofs.PartSteps.{rest_seen}

pub wrap_open : (o : Option Id) (l : Label) (rule : Option TreeRule) (n : List ℕ) (s t : Space) (i : Id) → n ≡ label_view l → opened_at o n s ≡ (t, i) → wrap_opened o (wraps.Newtype l rule) s ≡ (t, Some i)
wrap_open o l rule n s t i d h = ap (λ (p : Space × Id). (p.0, Some p.1)) (ap (λ m. opened_at o m s) (sym d) ∙ h)

pub newtype_closed : (l : Label) (rule : Option TreeRule) (o : Option Id) (i j : Id) (r : Option RuleD) (s t : Space) → i ≡ rest_or_first o → r ≡ option_map rule_view rule → t ≡ filled i (newtype_shape_at j r) s
    → wrap_closed (wraps.Newtype l rule) o j s ≡ (t, i)
newtype_closed l rule o i j r s t e h f =
    ap (λ (k : Id). struct_filled k s (newtype_shape_at j (option_map rule_view rule))) (sym e) ∙ ap (λ z. struct_filled i s (newtype_shape_at j z)) (sym h) ∙ ap (λ (z : Space). (z, i)) (sym f)

pub struct_made : (i : Id) (c : Bool) (ps : Parts) (is : List (Option Id)) (o : Option TypeId) (js : List Id) (gs : List FieldAt) (s t : Space) → js ≡ resolved is (option_map id_view o) → gs ≡ fields_at ps js
    → t ≡ filled i (struct_shape_at c gs (rest_at gs o)) s
    → struct_filled i s (struct_shape_at c (struct_given ps is (option_map id_view o)) (rest_given (struct_given ps is (option_map id_view o)) (option_map id_view o))) ≡ (t, i)
struct_made i c ps is o js gs s t h k f =
    let e : gs ≡ struct_given ps is (option_map id_view o) = k ∙ ap (fields_at ps) h in
    ap (λ z. struct_filled i s (struct_shape_at c z (rest_given z (option_map id_view o)))) (sym e) ∙ ap (λ z. struct_filled i s (struct_shape_at c gs z)) (rest_seen gs o)
    ∙ ap (λ (z : Space). (z, i)) (sym f)

pub enum_made : (i : Id) (c : Bool) (a b : TagModel) (ws : List VariantAt) (s t : Space) → a ≡ b → t ≡ filled i (enum_shape_at c a ws) s → struct_filled i s (enum_shape_at c b ws) ≡ (t, i)
enum_made i c a b ws s t e f = ap (λ z. struct_filled i s (enum_shape_at c z ws)) (sym e) ∙ ap (λ (z : Space). (z, i)) (sym f)

abbrev made-field : List ℕ → List ℕ → Id → State → FieldAt
made-field i n j t = record { identifier = i; name = n; entry = j; state = t }

abbrev named-variant : List ℕ → List ℕ → ContentsAt → VariantAt
named-variant i n c = record { identifier = i; name = n; contents = c }

pub field_made : (p : FieldHead × Option Tree) (i a n : List ℕ) (j : Id) (t : State) → i ≡ a → a ≡ label_view p.0.label → n ≡ p.0.label.wanted.now → t ≡ part_state p.0 (option_map tree_view p.1)
    → made-field i n j t ≡ field_at (part_seen p) j
field_made p i a n j t e h k f = λ x. made-field ((e ∙ h) x) (k x) j (f x)

module _ (ids : Target → Id) where
  pub variant_made : (tag : TagModel) (h : VariantHead) (ps : Parts) (i a n b : List ℕ) (s t : Space) (c : ContentsAt) → i ≡ a → a ≡ label_view h.label → n ≡ b → b ≡ name_by tag (label_view h.label) h.label.wanted.now
      → placed_contents ids (contents_view h.kind ps) s ≡ (t, c)
      → placed_variant ids tag (h, ps) s ≡ (t, named-variant i n c)
  variant_made tag h ps i a n b s t c e f k g made =
      ap (λ (x : Space × ContentsAt). (x.0, named-variant (label_view h.label) (name_by tag (label_view h.label) h.label.wanted.now) x.1)) made
      ∙ ap (λ m. (t, named-variant m (name_by tag (label_view h.label) h.label.wanted.now) c)) (sym (e ∙ f)) ∙ ap (λ m. (t, named-variant i m c)) (sym (k ∙ g))
