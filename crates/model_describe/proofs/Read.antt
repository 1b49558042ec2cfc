-- An item read for both derives, and what is told of it.
use Rattle.std.proofs.Common.{◌≡◌, ℕ, List, [], ◌∷◌, ◌++◌, Bool, true, false, Option, None, if◌then◌else◌, sym, refl, ap, ◌∙◌, append_assoc, true≢false}
use Rattle.token_trees.specs.Token.{Name}
use Rattle.syntax_trees.specs.Item.{ItemD}
use Rattle.attr_parts.specs.Diagnostics.{DiagnosticD}
use Rattle.attr_parts.specs.declared.derive.Derive.TheVariants.{Serialize, Deserialize}
use Rattle.attr_defs.specs.Texts.{lexed}
use Rattle.container_defs.specs.Container.{ReadContainer}
use Rattle.container_defs.specs.Forms.{is_outside}
use Rattle.container_defs.specs.Model.{model_of, diagnostics_of}
use Rattle.container_defs.specs.Reader.{reader_model}
use Rattle.derive_model.specs.Items.{private, read_of, told_of}
use Rattle.model_defs.specs.Model.{ContainerModel, ConversionsD}
use Rattle.describe_defs.specs.Plain.{has_none}
use Rattle.describe_defs.specs.NotPlain.{outside_item}
use Rattle.model_describe.specs.Described.{as_it_stands, unless_told, untold, inside_or}

pub both_told : (p : Name) (i : ItemD) (old mid new : List DiagnosticD) → p ≡ private
    → mid ≡ old ++ diagnostics_of lexed as_it_stands as_it_stands p i Serialize → new ≡ mid ++ diagnostics_of lexed as_it_stands as_it_stands p i Deserialize
    → new ≡ old ++ told_of as_it_stands as_it_stands i
both_told p i old mid new e s d =
    d
    ∙ ap (λ l. l ++ diagnostics_of lexed as_it_stands as_it_stands p i Deserialize) s
    ∙ append_assoc old (diagnostics_of lexed as_it_stands as_it_stands p i Serialize) (diagnostics_of lexed as_it_stands as_it_stands p i Deserialize)
    ∙ ap (λ q. old ++ (diagnostics_of lexed as_it_stands as_it_stands q i Serialize ++ diagnostics_of lexed as_it_stands as_it_stands q i Deserialize)) e

pub read_so : (p : Name) (i : ItemD) (o : Option ReadContainer) → p ≡ private → o ≡ model_of lexed as_it_stands as_it_stands p i Deserialize → o ≡ read_of as_it_stands as_it_stands i
read_so p i o e h = h ∙ ap (λ q. model_of lexed as_it_stands as_it_stands q i Deserialize) e

-- ---- where something is told, nothing is read

none_told : (ds : List DiagnosticD) (o : Option ReadContainer) → has_none ds ≡ true → o ≡ unless_told ds o
none_told [] o h = refl
none_told (d ∷ ds) o h = absurd (true≢false (sym h))

some_told : (ds : List DiagnosticD) (o : Option ReadContainer) → has_none ds ≡ false → None ≡ unless_told ds o
some_told [] o h = absurd (true≢false h)
some_told (d ∷ ds) o h = refl

pub nothing_told : (i : ItemD) (old new : List DiagnosticD) (o : Option ReadContainer) (b : Bool) → old ≡ [] → new ≡ old ++ told_of as_it_stands as_it_stands i → o ≡ read_of as_it_stands as_it_stands i
    → b ≡ has_none new → b ≡ true → o ≡ untold i
nothing_told i old new o b e n r t h =
    r ∙ none_told (told_of as_it_stands as_it_stands i) (read_of as_it_stands as_it_stands i) (ap has_none (sym (n ∙ ap (λ l. l ++ told_of as_it_stands as_it_stands i) e)) ∙ sym t ∙ h)

pub something_told : (i : ItemD) (old new : List DiagnosticD) (b : Bool) → old ≡ [] → new ≡ old ++ told_of as_it_stands as_it_stands i → b ≡ has_none new → b ≡ false → None ≡ untold i
something_told i old new b e n t h =
    some_told (told_of as_it_stands as_it_stands i) (read_of as_it_stands as_it_stands i) (ap has_none (sym (n ∙ ap (λ l. l ++ told_of as_it_stands as_it_stands i) e)) ∙ sym t ∙ h)

-- ---- forms

pub is_left : (names : List (List ℕ)) (k : ConversionsD) (n : List ℕ) (c : ReadContainer) (m : ContainerModel) (b : Bool) → b ≡ is_outside names k c → b ≡ true → m ≡ outside_item n → m ≡ inside_or names k n c
is_left names k n c m b e h q = q ∙ ap (λ z. if z then outside_item n else reader_model c) (sym h ∙ e)

pub is_inside : (names : List (List ℕ)) (k : ConversionsD) (n : List ℕ) (c : ReadContainer) (m : ContainerModel) (b : Bool) → b ≡ is_outside names k c → b ≡ false → m ≡ reader_model c → m ≡ inside_or names k n c
is_inside names k n c m b e h q = q ∙ ap (λ z. if z then outside_item n else reader_model c) (sym h ∙ e)
