-- Names and words, the tables of a select, and which selects the cache may keep.
use Rattle.std.proofs.Common.{◌≡◌, List, [], ◌∷◌, refl, true, false}
use Rattle.std.specs.Prelude.{codes, Some, None, Option, pos}
use Rattle.qc_types.specs.declared.names.TableName.{TableName}
use Rattle.qc_types.specs.declared.names.Why.TheVariants as why
use Rattle.qc_types.specs.declared.names.Value.TheVariants as value
use Rattle.qc_sql.specs.declared.session.Asked.TheVariants as asked
use Rattle.qc_sql.specs.declared.statements.Head.TheVariants as head
use Rattle.qc_sql.specs.declared.statements.Expr.{Expr}
use Rattle.qc_sql.specs.declared.statements.Expr.TheVariants as expr
use Rattle.qc_sql.specs.declared.statements.Source.{Source}
use Rattle.qc_sql.specs.declared.statements.Select.{Select}
use Rattle.qc_sql.specs.Database.{Name}
use Rattle.qc_sql.specs.Rules.{capital, in_capitals, same_word, full_name, each_once, select_tables, is_uncached, is_system, why_not, asks}
use Rattle.qc_sql.specs.Words.{◌or_else◌, when}

-- ---- words

small_z : capital 122 ≡ 90
small_z = refl

-- the bytes beside the small letters stay
brace : capital 123 ≡ 123
brace = refl

grave : capital 96 ≡ 96
grave = refl

capitals : in_capitals (codes "aZ_9") ≡ codes "AZ_9"
capitals = refl

-- bytes above the ASCII ones have no case
letters_beyond : same_word (195 ∷ 164 ∷ []) (195 ∷ 132 ∷ []) ≡ false
letters_beyond = refl

same : same_word (codes "Now") (codes "nOW") ≡ true
same = refl

longer : same_word (codes "NOW") (codes "NOWS") ≡ false
longer = refl

first_is_there : (Some (codes "a") or_else Some (codes "b")) ≡ Some (codes "a")
first_is_there = refl

second_is_there : (None or_else Some (codes "b")) ≡ Some (codes "b")
second_is_there = refl

abbrev none : Option Name
none = None

none_is_there : none or_else none ≡ none
none_is_there = refl

when_true : when true (codes "a") ≡ Some (codes "a")
when_true = refl

when_false : when false (codes "a") ≡ None
when_false = refl

-- ---- tables

abbrev t : TableName
t = record { db = codes "d"; name = codes "t" }

current : full_name (codes "d") (record { db = None; name = codes "t" }) ≡ t
current = refl

written : full_name (codes "e") (record { db = Some (codes "d"); name = codes "t" }) ≡ t
written = refl

-- without a current database its name is empty
no_current : full_name [] (record { db = None; name = codes "t" }) ≡ record { db = []; name = codes "t" }
no_current = refl

third_is_first : each_once [] (t ∷ record { db = codes "e"; name = codes "t" } ∷ t ∷ []) ≡ t ∷ record { db = codes "e"; name = codes "t" } ∷ []
third_is_first = refl

seen_before : each_once (t ∷ []) (t ∷ []) ≡ []
seen_before = refl

-- ---- functions and databases

now : is_uncached (codes "NOW", 3) ≡ true
now = refl

-- with one argument alone, and with none alone
encrypt : is_uncached (codes "ENCRYPT", 1) ≡ true
encrypt = refl

encrypt_of_two : is_uncached (codes "ENCRYPT", 2) ≡ false
encrypt_of_two = refl

unix_timestamp : is_uncached (codes "UNIX_TIMESTAMP", 0) ≡ true
unix_timestamp = refl

unix_timestamp_of_one : is_uncached (codes "UNIX_TIMESTAMP", 1) ≡ false
unix_timestamp_of_one = refl

length_is_kept : is_uncached (codes "LENGTH", 1) ≡ false
length_is_kept = refl

in_any_case : is_system (record { db = codes "Information_Schema"; name = codes "x" }) ≡ true
in_any_case = refl

-- the table's own name says nothing
name_of_a_table : is_system (record { db = codes "d"; name = codes "mysql" }) ≡ false
name_of_a_table = refl

-- ---- the verdict

abbrev from_table : Option Name → Source
from_table db = record { table = record { db = db; name = codes "t" }; name = codes "t" }

abbrev select : Expr → List Source → Select
select e sources = record { cache = head.Bare; star = false; items = record { value = e; name = None; from = 7; to = 8; words = codes "x" } ∷ []; from = sources; cond = None; order = []; limit = None; lock = false }

abbrev one : Expr
one = expr.Literal (value.Int (pos 1))

kept : why_not (codes "d") (select one (from_table None ∷ [])) ≡ None
kept = refl

no_tables : why_not (codes "mysql") (select (expr.Call (codes "now") []) []) ≡ Some why.NoTables
no_tables = refl

-- the current database is one of the system's; its table is told before the function
system_table : why_not (codes "MySQL") (select (expr.Call (codes "now") []) (from_table (Some (codes "d")) ∷ from_table None ∷ [])) ≡ Some (why.SystemTable (record { db = codes "MySQL"; name = codes "t" }))
system_table = refl

-- a function is told in capitals
function : why_not (codes "d") (select (expr.Call (codes "now") []) (from_table None ∷ [])) ≡ Some (why.Function (codes "NOW"))
function = refl

tables_of_both : select_tables (codes "d") (select one (from_table (Some (codes "e")) ∷ from_table None ∷ from_table (Some (codes "d")) ∷ [])) ≡ record { db = codes "e"; name = codes "t" } ∷ t ∷ []
tables_of_both = refl

-- ---- whether the cache is asked

off : asks head.Cache 0 ≡ asked.Off
off = refl

on : asks head.Bare 1 ≡ asked.Yes
on = refl

on_with_no_cache : asks head.NoCache 1 ≡ asked.No
on_with_no_cache = refl

on_demand : asks head.Bare 2 ≡ asked.No
on_demand = refl

demanded : asks head.Cache 2 ≡ asked.Yes
demanded = refl
