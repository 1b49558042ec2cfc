-- Tables of the same items take the same, whatever trees they have and whatever names are given.
use Rattle.std.proofs.Common.{◌≡◌, ◌≤◌, ◌+◌, ℕ, suc, List, [], ◌∷◌, ◌++◌, map, length, Bool, Option, Some, None, refl, sym, ap, ◌∙◌, append-nil, arith}
use Rattle.json_value.specs.Value as value
use Rattle.json_value.specs.Value.{Value, Items, Members, null, number, fraction, text, list, object, no_items, no_members, member}
use Rattle.schema_defs.specs.Texts.{Relations}
use Rattle.model_defs.specs.Layer.{list_parts, object_parts, one_type}
use Rattle.model_defs.specs.Model.{ContainerModel, ConversionsD}
use Rattle.model_defs.specs.Reads.{leads_to_option, value_reads}
use Rattle.entry_defs.specs.Entry.{Target, Entry, reference}
use Rattle.entry_defs.specs.Layer.{entry_takes}
use Rattle.entry_defs.specs.Sound.{Each, Leads, IsSound}
use Rattle.entry_defs.specs.Table.{ItemEntry, TargetEntry, Table, target_item, item_name, items_of, allowed}
use Rattle.entry_defs.specs.Takes.{item_takes, follows, value_takes, item_judges, member_judges, parts_of, takes}
use Rattle.entry_defs.proofs.Rows.{takes-level}
use Rattle.naming_defs.specs.Good.{is_good_name}
use Rattle.naming_defs.proofs.Bare.{bare, bare-table}
use Rattle.naming_defs.proofs.Meaning.{unseen}
use Rattle.emit_defs.specs.Emission.{models_of}
use Rattle.emit_defs.specs.Models.{unboxed, type_model, models_of_items, shape_defaults, conversions_of_items}
use Rattle.emit_defs.specs.Setting.{Setting, setting_of}
use Rattle.emit_defs.proofs.Acyclic.{acyclic}
use Rattle.emit_defs.proofs.Found.{Placed, target_whole}
use Rattle.emit_defs.proofs.Level.{leads_told}
use Rattle.emit_defs.proofs.Meaning.{values_agree}
use Rattle.history_laws.specs.Placing.{with_names, with_tree, next_named}
use Rattle.history_laws.proofs.Growing.{more}
use Rattle.history_laws.proofs.Standing.{inside, led_items}

-- ---- a reference is read as the items alone are, which stand in each of the tables

as-many : (s : Setting) (is : List ItemEntry) (n : ℕ) → length (models_of_items s n is) ≡ length is
as-many s [] n = refl
as-many s (i ∷ is) n = ap suc (as-many s is (n + length (shape_defaults i.shape)))

shorter : (xs ys : List ItemEntry) → length xs ≤ length (xs ++ ys)
shorter [] ys = let e : 0 ≤ length ys = omega arith in e
shorter (x ∷ xs) ys = let h = shorter xs ys in let e : suc (length xs) ≤ suc (length (xs ++ ys)) = omega (arith, h) in e

module _ (ts : List TargetEntry) (r : Relations) where
  abbrev of : List Entry → Table
  of es = record { targets = ts; trees = es }

  abbrev lone : Table
  lone = of []

  module _ (sound : IsSound lone) where
    abbrev models : List ContainerModel
    models = models_of lone

    abbrev cs : ConversionsD
    cs = conversions_of_items (items_of lone)

    enough : (es : List Entry) → length models ≤ allowed (of es)
    enough es =
        let a = as-many (setting_of lone) (items_of lone) 0 in
        let b = ap length (append-nil (led_items lone)) in
        let c = shorter (led_items lone) (inside es) in
        omega (arith, a, b, c)

    names : (q : Target) (i : ItemEntry) → target_item lone q ≡ Some i → (setting_of lone).name q ≡ i.name
    names q i e = ap item_name e

    told : (b : List ℕ → Bool) (e : Entry) → Each (Placed lone sound) (Leads lone) e → leads_to_option models (type_model (setting_of lone).name b e) ≡ (setting_of lone).leads e
    told b e w = sym (leads_told (setting_of lone) models cs lone (acyclic lone sound.acyclic) names (target_whole lone sound) (enough []) b e w)

    referred : (es : List Entry) (v : Value) (q : Target) → Leads lone q → value_takes (of es) r v (reference q) ≡ value_reads models cs r v (one_type (type_model (setting_of lone).name unboxed (reference q)))
    referred es v q l = (values_agree (setting_of lone) models cs (of es) r (acyclic lone sound.acyclic) names (target_whole lone sound) (enough es) told v).one unboxed (reference q) l

    -- ---- so does each value

    module _ (xs ys : List Entry) where
      abbrev ask : List Entry → Value → Target → Bool
      ask es v q = follows (of es) r v (parts_of (of es) r v) (allowed (of es)) q

      same-asked : (v : Value) (q : Target) → ask xs v q ≡ ask ys v q
      same-asked v q = by (target_item lone q) refl
        where
          by : (o : Option ItemEntry) → target_item lone q ≡ o → ask xs v q ≡ ask ys v q
          by None e = ap (item_takes _) e ∙ sym (ap (item_takes _) e)
          by (Some i) e = sym (takes-level (of xs) r v (reference q)) ∙ referred xs v q (i, e) ∙ sym (referred ys v q (i, e)) ∙ takes-level (of ys) r v (reference q)

      level : (v : Value) → parts_of (of xs) r v ≡ parts_of (of ys) r v → value_takes (of xs) r v ≡ value_takes (of ys) r v
      level v p = λ i e. (takes-level (of xs) r v e ∙ (λ j. entry_takes r v (p j) (λ q. same-asked v q j) e) ∙ sym (takes-level (of ys) r v e)) i

      mutual
        pub same-taken : (v : Value) → value_takes (of xs) r v ≡ value_takes (of ys) r v
        same-taken null = level null refl
        same-taken (value.boolean b) = level (value.boolean b) refl
        same-taken (number z) = level (number z) refl
        same-taken fraction = level fraction refl
        same-taken (text s) = level (text s) refl
        same-taken (list vs) = level (list vs) (ap list_parts (same-items vs))
        same-taken (object ms) = level (object ms) (ap object_parts (same-members ms))

        same-items : (vs : Items) → item_judges (of xs) r vs ≡ item_judges (of ys) r vs
        same-items no_items = refl
        same-items (value.item v vs) =
            let a = same-taken v in let b = same-items vs in
            λ i. a i ∷ b i

        same-members : (ms : Members) → member_judges (of xs) r ms ≡ member_judges (of ys) r ms
        same-members no_members = refl
        same-members (member k v ms) =
            let a = level (text k) refl in let b = same-taken v in let c = same-members ms in
            λ i. record { name = k; key = a i; value = b i } ∷ c i

-- ---- names

last-of : Entry → List Entry → Entry
last-of x [] = x
last-of x (y ∷ ys) = last-of y ys

bare-last : (x : Entry) (es : List Entry) (e : Entry) → last-of x (map bare (es ++ e ∷ [])) ≡ bare e
unfolding last-of
bare-last x [] e = refl
bare-last x (y ∷ es) e = bare-last (bare y) es e

bare-next : (t : Table) (e : Entry) → bare (next_named t e) ≡ bare e
bare-next t e =
    let y = next_named t e in
    sym (bare-last e (with_names t).trees y) ∙ ap (λ (w : Table). last-of e (map bare w.trees)) (sym (more t e))
    ∙ ap (λ (w : Table). last-of e w.trees) (bare-table is_good_name (with_tree t e)) ∙ bare-last e t.trees e

-- an entry takes in a table what it takes with names there, whichever table it is named behind
pub renamed : (t u : Table) (r : Relations) (e : Entry) (v : Value) → takes t r e v ≡ takes (with_names t) r (next_named u e) v
renamed t u r e v =
    unseen t r e v ∙ (λ i. takes (sym (bare-table is_good_name t) i) r (sym (bare-next u e) i) v) ∙ sym (unseen (with_names t) r (next_named u e) v)
