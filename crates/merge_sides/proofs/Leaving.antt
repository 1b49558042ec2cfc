-- The leaves of two objects, one after another.
use Rattle.std.proofs.Common.{◌≡◌, ℕ, List, Bool, Option, option_map, string_bytes, String, Global, sym, subst}
use Rattle.std.specs.Prelude.{Result, Ok, Err}
use Rattle.schema_defs.specs.declared.InstanceType.TheVariants.{Integer, Text}
use Rattle.schema_defs.specs.Schema as defs
use Rattle.schema_defs.specs.Schema.{Schema, Plain}
use Rattle.schema_types.specs.View.{object_view, types_view, numbers_view, texts_view}
use Rattle.schema_types.specs.declared.schema.SchemaObject.{SchemaObject}
use Rattle.schema_types.specs.declared.schema.Types.{Types}
use Rattle.schema_types.specs.declared.schema.NumberValidation.{NumberValidation}
use Rattle.schema_types.specs.declared.schema.StringValidation.{StringValidation}
use Rattle.merge_defs.specs.Outcome.{Note, Outcome, and_then, where_both}
use Rattle.merge_defs.specs.Leaves.{is_only, two_types, two_formats, two_numbers, two_texts, values_of}
use Rattle.merge_leaves.specs.View.{values_view}
use Rattle.schema_sameness.specs.Parts.{plain_in}
use Rattle.merge_walked.proofs.Objects.{plain_of, object_seen}
use Rattle.merge_steps.specs.declared.stop.Stop.{Stop}
use Rattle.merge_steps.specs.Ends.{Ends, Goes, Leads}
use Rattle.merge_steps.proofs.Leading.{leads_by, leads_on, led_goes}
use Rattle.merge_steps.proofs.Ending.{on_leads, off_goes}
use Rattle.merge_sides.specs.declared.met.Leaves.{Leaves}
use Rattle.merge_sides.specs.Leaves.{LeavesOf, leaves_then, leaves_view}
use Rattle.merge_sides.proofs.Going.{goes_here}

module _ (a b : SchemaObject) (k : LeavesOf → Outcome Schema) where
  -- ---- what is left at each

  abbrev p : Plain
  p = plain_of a

  abbrev q : Plain
  q = plain_of b

  abbrev start : Outcome Schema
  start = leaves_then (plain_in (object_view a)) (plain_in (object_view b)) k

  abbrev at_end : Option defs.Types → Option (List ℕ) → Option defs.Numbers → Option defs.Texts → Outcome Schema
  at_end t f n x = k (record { types = t; format = f; numbers = n; texts = x; values = values_of p; other_values = values_of q })

  abbrev at_texts : Option defs.Types → Option (List ℕ) → Option defs.Numbers → Outcome Schema
  at_texts t f n = and_then (where_both (two_texts (is_only Text t)) p.texts q.texts) (at_end t f n)

  abbrev at_numbers : Option defs.Types → Option (List ℕ) → Outcome Schema
  at_numbers t f = and_then (where_both (two_numbers (is_only Integer t)) p.numbers q.numbers) (at_texts t f)

  abbrev at_format : Option defs.Types → Outcome Schema
  at_format t = and_then (where_both two_formats p.format q.format) (at_numbers t)

  begins : start ≡ leaves_then p q k
  begins = (λ i. leaves_then (plain_in (object_seen a i)) (plain_in (object_seen b i)) k)

  -- ---- how each ends

  abbrev TypesEnd : Result (Option Types) Stop → Type 0
  TypesEnd r = (ns : List Note) → Ends (option_map types_view) ns ns (where_both two_types p.types q.types) r

  abbrev FormatEnds : List Note → List Note → Result (Option (String Global)) Stop → Type 0
  FormatEnds old new r = Ends (option_map string_bytes) old new (where_both two_formats p.format q.format) r

  abbrev NumbersEnd : Bool → List Note → List Note → Result (Option NumberValidation) Stop → Type 0
  NumbersEnd whole old new r = Ends (option_map numbers_view) old new (where_both (two_numbers whole) p.numbers q.numbers) r

  abbrev TextsEnd : Bool → List Note → List Note → Result (Option StringValidation) Stop → Type 0
  TextsEnd whole old new r = Ends (option_map texts_view) old new (where_both (two_texts whole) p.texts q.texts) r

  -- the leaves that are answered
  pub to_leaves : (n0 n4 : List Note) (x : Leaves) → Leads n0 n4 start (at_end (option_map types_view x.types) (option_map string_bytes x.format) (option_map numbers_view x.number) (option_map texts_view x.string))
      → values_view x.values ≡ values_of p → values_view x.other_values ≡ values_of q → Goes (λ l. k (leaves_view l)) n0 n4 start (Ok x)
  to_leaves n0 n4 x a hv ho =
      led_goes a
      (goes_here x (λ i. k (record { types = option_map types_view x.types; format = option_map string_bytes x.format; numbers = option_map numbers_view x.number; texts = option_map texts_view x.string; values = sym hv i; other_values = sym ho i })))

  -- ---- from the first

  module _ (n0 : List Note) (types : Option Types) (ht : TypesEnd (Ok types)) where
    to_format : Leads n0 n0 start (at_format (option_map types_view types))
    to_format = leads_on (leads_by begins) (on_leads at_format types (ht n0))

    module _ (n1 : List Note) (format : Option (String Global)) (hf : FormatEnds n0 n1 (Ok format)) where
      to_numbers : Leads n0 n1 start (at_numbers (option_map types_view types) (option_map string_bytes format))
      to_numbers = leads_on to_format (on_leads (at_numbers (option_map types_view types)) format hf)

      module _ (n2 : List Note) (whole : Bool) (number : Option NumberValidation) (hw : whole ≡ is_only Integer (option_map types_view types)) (hn : NumbersEnd whole n1 n2 (Ok number)) where
        to_texts : Leads n0 n2 start (at_texts (option_map types_view types) (option_map string_bytes format) (option_map numbers_view number))
        to_texts =
            let P : Bool → Type 0 = λ w. NumbersEnd w n1 n2 (Ok number) in
            leads_on to_numbers (on_leads (at_texts (option_map types_view types) (option_map string_bytes format)) number (subst P hw hn))

        pub to_end : (n3 : List Note) (text : Bool) (string : Option StringValidation) → text ≡ is_only Text (option_map types_view types) → TextsEnd text n2 n3 (Ok string)
            → Leads n0 n3 start (at_end (option_map types_view types) (option_map string_bytes format) (option_map numbers_view number) (option_map texts_view string))
        to_end n3 text string hx hs =
            let P : Bool → Type 0 = λ w. TextsEnd w n2 n3 (Ok string) in
            leads_on to_texts (on_leads (at_end (option_map types_view types) (option_map string_bytes format) (option_map numbers_view number)) string (subst P hx hs))

        pub off_texts : {X : Type 0} {v : X → Outcome Schema} (n3 : List Note) (text : Bool) (e : Stop) → text ≡ is_only Text (option_map types_view types) → TextsEnd text n2 n3 (Err e) → Goes v n0 n3 start (Err e)
        off_texts n3 text e hx hs =
            let P : Bool → Type 0 = λ w. TextsEnd w n2 n3 (Err e) in
            led_goes to_texts (off_goes (at_end (option_map types_view types) (option_map string_bytes format) (option_map numbers_view number)) e (subst P hx hs))

      pub off_numbers : {X : Type 0} {v : X → Outcome Schema} (n2 : List Note) (whole : Bool) (e : Stop) → whole ≡ is_only Integer (option_map types_view types) → NumbersEnd whole n1 n2 (Err e) → Goes v n0 n2 start (Err e)
      off_numbers n2 whole e hw hn =
          let P : Bool → Type 0 = λ w. NumbersEnd w n1 n2 (Err e) in
          led_goes to_numbers (off_goes (at_texts (option_map types_view types) (option_map string_bytes format)) e (subst P hw hn))

    pub off_format : {X : Type 0} {v : X → Outcome Schema} (n1 : List Note) (e : Stop) → FormatEnds n0 n1 (Err e) → Goes v n0 n1 start (Err e)
    off_format n1 e hf = led_goes to_format (off_goes (at_numbers (option_map types_view types)) e hf)

  pub off_types : {X : Type 0} {v : X → Outcome Schema} (n0 : List Note) (e : Stop) → TypesEnd (Err e) → Goes v n0 n0 start (Err e)
  off_types n0 e ht = led_goes (leads_by begins) (off_goes at_format e (ht n0))
