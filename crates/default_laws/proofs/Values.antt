-- What is read of each value is what is found of it.
use Rattle.std.proofs.Common.{◌≡◌, ℕ, zero, suc, ◌≤◌, List, length, Bool, true, false, refl, sym, ap, ◌∙◌, true≢false, Some, None}
use Rattle.json_value.specs.Value as value
use Rattle.json_value.specs.Value.{Value, Items, Members, null, number, fraction, text, list, object, no_items, no_members, member}
use Rattle.schema_defs.specs.Texts.{Relations}
use Rattle.model_defs.specs.Types.{TypeModel}
use Rattle.model_defs.specs.Model.{ContainerModel, ConversionsD}
use Rattle.model_defs.specs.Layer.{Parts, no_parts, list_parts, object_parts}
use Rattle.model_defs.specs.Reads as reads
use Rattle.model_defs.specs.Settled.{or_null}
use Rattle.model_defs.specs.Reach.{NoneReachesItself}
use Rattle.typed_defs.specs.Typed.{Typed}
use Rattle.reading_defs.specs.Reading as reading
use Rattle.reading_defs.specs.Reading.{Read, absent, reader_within, value_reader}
use Rattle.entry_defs.specs.Entry.{Target, Entry, item, Shape}
use Rattle.entry_defs.specs.Table.{ItemEntry, Table, target_item, items_of, allowed}
use Rattle.entry_defs.specs.Sound.{Each, Leads, IsSound}
use Rattle.entry_defs.specs.Takes.{takes}
use Rattle.emit_defs.specs.Setting.{Setting, setting_of}
use Rattle.emit_defs.specs.Models.{unboxed, type_model, conversions_of_items}
use Rattle.emit_defs.specs.Emission.{models_of}
use Rattle.emit_defs.proofs.Acyclic.{acyclic}
use Rattle.default_defs.specs.Found.{Found, refused, ended, endless}
use Rattle.default_defs.specs.Layer.{Reader}
use Rattle.default_defs.specs.Supplied.{read_within, value_read, read_inside, item_readers, member_readers}
use Rattle.default_defs.specs.Laws.{Agrees}
use Rattle.default_defs.proofs.Taken.{found_is_taken}
use Rattle.default_laws.specs.Laws.{as_found, DefaultsAreRead, FoundIsRead, StatedIsRead, read_by_levels, LevelsAreRead}
use Rattle.default_laws.specs.Stated.{StatedAt}
use Rattle.default_laws.proofs.Says.{Says, ItemsSay, MembersSay, PartsSay}
use Rattle.default_laws.proofs.Level.{IsFilled, level}
use Rattle.default_laws.proofs.Standing.{in_items, stated_stands, each_item}
use Rattle.default_laws.proofs.Filled.{Filled, enough, names, all_filled, target_filled, lacks}

module _ (s : Setting) (models : List ContainerModel) (cs : ConversionsD) (table : Table) (r : Relations) (missed : Entry → Value → Found) (default_read : ℕ → TypeModel → Read Typed)
    (none : NoneReachesItself models)
    (named : (q : Target) (i : ItemEntry) → target_item table q ≡ Some i → s.name q ≡ i.name)
    (whole : (q : Target) (i : ItemEntry) → target_item table q ≡ Some i → Each (IsFilled s models cs missed default_read) (Leads table) (item i.name i.shape))
    (many : length models ≤ allowed table)
    (no_value : (b : List ℕ → Bool) (e : Entry) → Each (IsFilled s models cs missed default_read) (Leads table) e → s.leads e ≡ false → absent models (type_model s.name b e) ≡ None) where
  abbrev P : List ℕ → Shape → Type 0
  P n h = IsFilled s models cs missed default_read n h

  abbrev Q : Target → Type 0
  Q q = Leads table q

  abbrev Same : Reader → reading.Reader → Type 0
  Same j k = Says s missed default_read P Q j k

  here : (v : Value) (ps : Parts Reader) (qs : Parts reading.Reader) → PartsSay s missed default_read P Q ps qs
      → Same (read_within table r missed v ps (allowed table)) (reader_within models cs r default_read v qs (reads.allowed models))
  here v ps qs x = level s models cs table r missed default_read none named whole many no_value v ps qs x

  mutual
    pub of_value : (v : Value) → Same (value_read table r missed v) (value_reader models cs r default_read v)
    of_value null = here null no_parts no_parts tt
    of_value (value.boolean b) = here (value.boolean b) no_parts no_parts tt
    of_value (number z) = here (number z) no_parts no_parts tt
    of_value fraction = here fraction no_parts no_parts tt
    of_value (text k) = here (text k) no_parts no_parts tt
    of_value (list xs) = here (list xs) (list_parts (item_readers table r missed xs)) (list_parts (reading.item_readers models cs r default_read xs)) (of_items xs)
    of_value (object ms) = here (object ms) (object_parts (member_readers table r missed ms)) (object_parts (reading.member_readers models cs r default_read ms)) (of_members ms)

    of_items : (xs : Items) → ItemsSay s missed default_read P Q (item_readers table r missed xs) (reading.item_readers models cs r default_read xs)
    of_items no_items = tt
    of_items (value.item v vs) = (of_value v, of_items vs)

    of_members : (ms : Members) → MembersSay s missed default_read P Q (member_readers table r missed ms) (reading.member_readers models cs r default_read ms)
    of_members no_members = tt
    of_members (member k v ms) = ((refl, record { says = here (text k) no_parts no_parts tt; is_a_text = refl }, of_value v), of_members ms)

module _ (t : Table) (h : IsSound t) (r : Relations) (missed : Entry → Value → Found) (default_read : ℕ → TypeModel → Read Typed) (d : DefaultsAreRead t missed default_read) where
  read_by : (b : List ℕ → Bool) (e : Entry) → Each (Filled t h missed default_read d) (Leads t) e → (v : Value)
      → as_found ((value_reader (models_of t) (conversions_of_items (items_of t)) r default_read v).as_type (type_model (setting_of t).name b e)) ≡ value_read t r missed v e
  read_by b e o v =
      (of_value (setting_of t) (models_of t) (conversions_of_items (items_of t)) t r missed default_read (acyclic t h.acyclic) (names t h) (target_filled t h missed default_read d) (enough t h)
      (lacks t h missed default_read d) v).one b e o

pub found_is_read : FoundIsRead
found_is_read t h r missed default_read d e o v = read_by t h r missed default_read d unboxed e (all_filled t h missed default_read d e o) v

pub stated_is_read : StatedIsRead
stated_is_read t h r missed default_read d n e w ty p v =
    let u = in_items (setting_of t) n e w ty (Filled t h missed default_read d) (Leads t) 0 (items_of t) (each_item t h missed default_read d) p in
    ap (λ z. as_found ((value_reader (models_of t) (conversions_of_items (items_of t)) r default_read v).as_type z)) (sym u.1) ∙ read_by t h r missed default_read d u.0 e u.2 v

-- ---- by levels

never : (e : endless ≡ refused) → ⊥
never e = cc

module _ (t : Table) (h : IsSound t) (r : Relations) (good : (n : ℕ) (e : Entry) (w : Value) (ty : TypeModel) → StatedAt t n e w ty → takes t r e w ≡ true) where
  abbrev by_levels : ℕ → ℕ → TypeModel → Read Typed
  by_levels k n ty = read_by_levels (models_of t) (conversions_of_items (items_of t)) r k n ty

  -- what is taken isn't refused
  not_refused : (x : Found) (b : Bool) → Agrees x b → b ≡ true → x ≡ refused → ⊥
  not_refused refused b a e g = true≢false (sym e ∙ a)
  not_refused ended b a e g = cc
  not_refused endless b a e g = cc

  pub levels : (k : ℕ) → DefaultsAreRead t (read_inside t r k) (by_levels k)
  levels zero n e w ty p = (never, refl)
  levels (suc k) n e w ty p = (
    not_refused (value_read t r (read_inside t r k) w e) (takes t r e w) (found_is_taken t r (read_inside t r k) w e) (good n e w ty p),
    ap (λ o. as_found ((value_reader (models_of t) (conversions_of_items (items_of t)) r (by_levels k) (or_null o)).as_type ty)) (stated_stands t n e w ty p)
        ∙ stated_is_read t h r (read_inside t r k) (by_levels k) (levels k) n e w ty p w,
  )

pub levels_are_read : LevelsAreRead
levels_are_read t h r good k e o v = found_is_read t h r (read_inside t r k) (by_levels t h r good k) (levels t h r good k) e o v
