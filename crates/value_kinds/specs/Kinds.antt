-- Kinds of JSON values, as the program has them.
use Rattle.std.specs.Prelude.{Bool}
use Rattle.writing_laws.specs.Kinds.{Kind, nulls, booleans, numbers, texts, lists, objects}
use Rattle.value_kinds.specs.declared.type_kinds.Kind as program
use Rattle.value_kinds.specs.declared.type_kinds.Kind.TheVariants as kinds
use Rattle.value_kinds.specs.declared.type_kinds.TypeKinds.{TypeKinds}

abbrev pub kind_view : program.Kind → Kind
kind_view kinds.Null = nulls
kind_view kinds.Boolean = booleans
kind_view kinds.Number = numbers
kind_view kinds.String = texts
kind_view kinds.Array = lists
kind_view kinds.Object = objects

-- whether the kind is among them
abbrev pub has : TypeKinds → Kind → Bool
has x nulls = x.null
has x booleans = x.boolean
has x numbers = x.number
has x texts = x.string
has x lists = x.array
has x objects = x.object

-- the kinds that pass a test
abbrev pub kinds_where : (Kind → Bool) → TypeKinds
kinds_where test = record { null = test nulls; boolean = test booleans; number = test numbers; string = test texts; array = test lists; object = test objects }
