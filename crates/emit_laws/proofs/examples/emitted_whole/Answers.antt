use Rattle.std.proofs.Common.{◌≡◌, Bool, refl, ◌∙◌, ◌++◌, [], ◌∷◌, true, false}
use Rattle.std.specs.List.{IsDistinct, AllByRecursion}
use Rattle.std.specs.Str.{chars, is_utf8}
use Rattle.unicode_ident.proofs.Computing.{unicode_ident}
use Rattle.unicode_normalization.proofs.Computing.{unicode_normalization}
use Rattle.json_value.specs.Value.{Value}
use Rattle.schema_defs.specs.Build.{◌≔◌, str, obj, sample}
use Rattle.attr_parts.specs.declared.derive.Derive.TheVariants.{Deserialize}
use Rattle.container_defs.specs.Told.{itself, private}
use Rattle.entry_defs.specs.Table.{root_of, items_of}
use Rattle.entry_defs.specs.Takes.{takes}
use Rattle.naming_defs.specs.Good.{is_good_name}
use Rattle.naming_defs.specs.Laws.{ShapeIsGood}
use Rattle.emit_defs.specs.Examples.{row_20}
use Rattle.emit_defs.specs.Formed.{IsEmittable}
use Rattle.emit_defs.proofs.SoundTables.{sound_20, formed_20}
use Rattle.emit_texts.proofs.Functions.{functions_are_read}
use Rattle.emit_texts.proofs.Types.{types_are_read_again}
use Rattle.emit_laws.specs.Examples.{reads_back, copying}
use Rattle.emit_laws.proofs.Assembled.{nothing_is_told, items_mean_entries, trees_are_roots}
use Rattle.emit_laws.proofs.examples.emitted_whole.Goals as goal

named_20 : AllByRecursion (λ i. (is_good_name i.name ≡ true) × ShapeIsGood is_good_name i.shape) (items_of row_20)
unfolding IsDistinct chars is_utf8 unicode_ident unicode_normalization lib.Utf8.encode
named_20 = (
  (refl, ((((refl, tt), (tt, tt)), (refl, (refl, tt))), (tt, ((((refl, tt), (tt, tt)), (refl, (refl, tt))), tt)))),
  (
    (refl, ((tt, tt), (refl, tt))),
    ((refl, (((refl, (refl, (refl, tt))), ((refl, (refl, tt)), ((refl, tt), (tt, tt)))), (refl, (refl, (refl, (refl, tt)))))), tt),
  ),
)

emittable_20 : IsEmittable row_20
emittable_20 = record { sound = sound_20; named = named_20; formed = formed_20 }

-- by the law
as_taken : (v : Value) → reads_back v ≡ takes row_20 sample (root_of row_20) v
as_taken v = items_mean_entries functions_are_read types_are_read_again itself itself private Deserialize row_20 emittable_20 sample (root_of row_20) (trees_are_roots row_20 emittable_20).0 v

pub returns : goal.returns
returns c = record {
  emittable = emittable_20;
  untold = nothing_is_told functions_are_read types_are_read_again itself itself private Deserialize row_20 emittable_20 (root_of row_20);
  taken = as_taken (obj (copying ++ "name" ≔ str "n" ∷ [])) ∙ refl;
  refused = as_taken (obj copying) ∙ refl;
}
