-- Truth with three values, in the order false, unknown, true.
use Rattle.std.specs.Prelude.{Bool, true, false}
use Rattle.morsel_expr.specs.declared.truth.Truth.{Truth}
use Rattle.morsel_expr.specs.declared.truth.Truth.TheVariants.{False, Unknown, True}

-- the lesser of two
abbrev pub least : Truth → Truth → Truth
least False b = False
least Unknown False = False
least Unknown Unknown = Unknown
least Unknown True = Unknown
least True b = b

-- the greater of two
abbrev pub greatest : Truth → Truth → Truth
greatest False b = b
greatest Unknown False = Unknown
greatest Unknown Unknown = Unknown
greatest Unknown True = True
greatest True b = True

-- false and true exchanged
abbrev pub mirror : Truth → Truth
mirror False = True
mirror Unknown = Unknown
mirror True = False

-- a test whose answer is known
abbrev pub certain : Bool → Truth
certain true = True
certain false = False

-- whether a truth is true, and neither false nor unknown
abbrev pub is_true : Truth → Bool
is_true False = false
is_true Unknown = false
is_true True = true
