-- The grammar as productions: which tokens spell which tree, one part behind the other. Nothing is said of the order in which a text is read, nor of what a reader looks at.
use Rattle.std.specs.Prelude.{◌≡◌, ℕ, zero, suc, ◌<◌, ◌≤◌, ◌^◌, pos, neg_ℤ, Bool, true, false, not, ◌&&◌, List, [], ◌∷◌, ◌++◌, length, Option, Some, None, unwrap_or, option_to_list, codes}
use Rattle.qc_types.specs.declared.names.Value.{Value}
use Rattle.qc_types.specs.declared.names.Value.TheVariants as value
use Rattle.qc_sql.specs.declared.statements.Expr.{Expr}
use Rattle.qc_sql.specs.declared.statements.Expr.TheVariants as expr
use Rattle.qc_sql.specs.declared.statements.Cond.{Cond}
use Rattle.qc_sql.specs.declared.statements.Cond.TheVariants as test
use Rattle.qc_sql.specs.declared.statements.Op.{Op}
use Rattle.qc_sql.specs.declared.statements.Op.TheVariants as compare
use Rattle.qc_sql.specs.declared.statements.ColumnName.{ColumnName}
use Rattle.qc_sql.specs.declared.statements.TableRef.{TableRef}
use Rattle.qc_sql.specs.declared.statements.Head.{Head}
use Rattle.qc_sql.specs.declared.statements.Head.TheVariants as head
use Rattle.qc_sql.specs.declared.statements.Item.{Item}
use Rattle.qc_sql.specs.declared.statements.Source.{Source}
use Rattle.qc_sql.specs.declared.statements.Order.{Order}
use Rattle.qc_sql.specs.declared.statements.Limit.{Limit}
use Rattle.qc_sql.specs.declared.statements.Statement.{Statement}
use Rattle.qc_sql.specs.declared.statements.Statement.TheVariants as statement
use Rattle.qc_sql.specs.declared.statements.Assignment.{Assignment}
use Rattle.qc_sql.specs.declared.statements.Right.{Right}
use Rattle.qc_sql.specs.declared.statements.Right.TheVariants as right
use Rattle.qc_sql.specs.declared.statements.Part.{Part}
use Rattle.qc_sql.specs.declared.statements.Part.TheVariants as piece
use Rattle.qc_sql.specs.declared.statements.PartKind.{PartKind}
use Rattle.qc_sql.specs.declared.statements.PartKind.TheVariants as typed
use Rattle.qc_sql.specs.declared.statements.Setting.{Setting}
use Rattle.qc_sql.specs.declared.statements.Setting.TheVariants as setting
use Rattle.qc_sql.specs.declared.statements.SetValue.{SetValue}
use Rattle.qc_sql.specs.declared.statements.SetValue.TheVariants as to
use Rattle.qc_sql.specs.Database.{Name}
use Rattle.qc_sql.specs.Rules.{same_word}
use Rattle.qc_sql.specs.Tokens.{Lexeme, Word, Quoted, Words, Digits, Sign}
use Rattle.qc_sql.specs.Reading.{is_reserved, is_among}
use Rattle.qc_sql.specs.Grammar.{is_known_call, most_open, Behind, no_from, all_conds}

-- ---- single tokens

-- a word, in whatever case
pub data Keyword (w : Name) : Lexeme → Type 0 where
  keyword : {bytes : Name} → same_word w bytes ≡ true → Keyword w (Word bytes)

pub data Mark (s : List ℕ) : Lexeme → Type 0 where
  mark : Mark s (Sign s)

pub data Named : Name → Lexeme → Type 0 where
  word : {n : Name} → is_reserved n ≡ false → Named n (Word n)
  quoted : {n : Name} → Named n (Quoted n)

-- a word or nothing, and whether it is there
pub data Passed (w : Name) : Bool → List Lexeme → Type 0 where
  there : {l : Lexeme} → Keyword w l → Passed w true (l ∷ [])
  absent : Passed w false []

-- ---- lists and brackets

-- one or more, with a token between each two
pub data Separated {A : Type 0} (Between : Lexeme → Type 0) (Member : A → List Lexeme → Type 0) : List A → List Lexeme → Type 0 where
  one : {x : A} {ls : List Lexeme} → Member x ls → Separated Between Member (x ∷ []) ls
  more : {x : A} {xs : List A} {l : Lexeme} {ls ms : List Lexeme} → Member x ls → Between l → Separated Between Member xs ms → Separated Between Member (x ∷ xs) (ls ++ l ∷ ms)

abbrev pub Listed : {A : Type 0} → (A → List Lexeme → Type 0) → List A → List Lexeme → Type 0
Listed Member = Separated (Mark (codes ",")) Member

pub data Bracketed {A : Type 0} (Inside : A → List Lexeme → Type 0) : A → List Lexeme → Type 0 where
  brackets : {x : A} {l r : Lexeme} {ls : List Lexeme} → Mark (codes "(") l → Inside x ls → Mark (codes ")") r → Bracketed Inside x (l ∷ ls ++ r ∷ [])

-- ---- names and values

pub data Dotted : Option Name × Name → List Lexeme → Type 0 where
  bare : {n : Name} {l : Lexeme} → Named n l → Dotted (None, n) (l ∷ [])
  dotted : {a b : Name} {l m r : Lexeme} → Named a l → Mark (codes ".") m → Named b r → Dotted (Some a, b) (l ∷ m ∷ r ∷ [])

pub data IsTable : TableRef → List Lexeme → Type 0 where
  table : {d : Option Name × Name} {ls : List Lexeme} → Dotted d ls → IsTable (record { db = d.0; name = d.1 }) ls

pub data IsColumn : ColumnName → List Lexeme → Type 0 where
  column : {d : Option Name × Name} {ls : List Lexeme} → Dotted d ls → IsColumn (record { source = d.0; name = d.1 }) ls

pub data IsLiteral : Value → List Lexeme → Type 0 where
  number : {n : ℕ} → n < 2 ^ 63 → IsLiteral (value.Int (pos n)) (Digits n ∷ [])
  negative : {n : ℕ} {l : Lexeme} → n ≤ 2 ^ 63 → Mark (codes "-") l → IsLiteral (value.Int (neg_ℤ (pos n))) (l ∷ Digits n ∷ [])
  text : {t : List ℕ} → IsLiteral (value.Str t) (Words t ∷ [])
  null : {l : Lexeme} → Keyword (codes "NULL") l → IsLiteral value.Null (l ∷ [])

abbrev pub IsTuple : List Value → List Lexeme → Type 0
IsTuple = Bracketed (Listed IsLiteral)

-- ---- calls

-- none or more
pub data Arguments (Argument : Expr → List Lexeme → Type 0) : List Expr → List Lexeme → Type 0 where
  none : Arguments Argument [] []
  some : {es : List Expr} {ls : List Lexeme} → Listed Argument es ls → Arguments Argument es ls

-- the calls that are parsed, but for those with a production of their own
abbrev pub is_other_call : Name → Bool
is_other_call w = is_known_call w && not (is_among (codes "LENGTH" ∷ codes "CONCAT" ∷ codes "COUNT" ∷ codes "SUM" ∷ codes "MIN" ∷ codes "MAX" ∷ []) w)

-- a call, which may be an aggregate or not, with its arguments, and that of COUNT
pub data IsCall (Argument Counted : Expr → List Lexeme → Type 0) : Bool → Expr → List Lexeme → Type 0 where
  length_of : {aggregates : Bool} {e : Expr} {l : Lexeme} {ls : List Lexeme} → Keyword (codes "LENGTH") l → Bracketed Argument e ls → IsCall Argument Counted aggregates (expr.Length e) (l ∷ ls)
  concat : {aggregates : Bool} {es : List Expr} {l : Lexeme} {ls : List Lexeme} → Keyword (codes "CONCAT") l → Bracketed (Listed Argument) es ls → IsCall Argument Counted aggregates (expr.Concat es) (l ∷ ls)
  count_all : {l m s r : Lexeme} → Keyword (codes "COUNT") l → Mark (codes "(") m → Mark (codes "*") s → Mark (codes ")") r → IsCall Argument Counted true expr.CountAll (l ∷ m ∷ s ∷ r ∷ [])
  count : {e : Expr} {l : Lexeme} {ls : List Lexeme} → Keyword (codes "COUNT") l → Bracketed Counted e ls → IsCall Argument Counted true (expr.Count e) (l ∷ ls)
  sum : {c : ColumnName} {l : Lexeme} {ls : List Lexeme} → Keyword (codes "SUM") l → Bracketed IsColumn c ls → IsCall Argument Counted true (expr.Sum c) (l ∷ ls)
  min : {c : ColumnName} {l : Lexeme} {ls : List Lexeme} → Keyword (codes "MIN") l → Bracketed IsColumn c ls → IsCall Argument Counted true (expr.Min c) (l ∷ ls)
  max : {c : ColumnName} {l : Lexeme} {ls : List Lexeme} → Keyword (codes "MAX") l → Bracketed IsColumn c ls → IsCall Argument Counted true (expr.Max c) (l ∷ ls)
  other : {aggregates : Bool} {w : Name} {es : List Expr} {ls : List Lexeme} → is_other_call w ≡ true → Bracketed (Arguments Argument) es ls → IsCall Argument Counted aggregates (expr.Call w es) (Word w ∷ ls)

pub data ValueOf (Call : Expr → List Lexeme → Type 0) : Expr → List Lexeme → Type 0 where
  literal : {v : Value} {ls : List Lexeme} → IsLiteral v ls → ValueOf Call (expr.Literal v) ls
  call : {e : Expr} {ls : List Lexeme} → Call e ls → ValueOf Call e ls
  column : {c : ColumnName} {ls : List Lexeme} → IsColumn c ls → ValueOf Call (expr.Column c) ls

-- a call in which at most n are open at once, itself among them
abbrev pub CallAt : ℕ → Bool → Expr → List Lexeme → Type 0
CallAt zero aggregates e ls = ⊥
CallAt (suc n) aggregates e ls = IsCall (ValueOf (CallAt n aggregates)) (ValueOf (CallAt n false)) aggregates e ls

abbrev pub ValueAt : ℕ → Bool → Expr → List Lexeme → Type 0
ValueAt n aggregates = ValueOf (CallAt n aggregates)

-- ---- conditions

pub data Compares : Op → Lexeme → Type 0 where
  equal : Compares compare.Eq (Sign (codes "="))
  unequal : Compares compare.Ne (Sign (codes "<>"))
  not_equal : Compares compare.Ne (Sign (codes "!="))
  less : Compares compare.Lt (Sign (codes "<"))
  at_most : Compares compare.Le (Sign (codes "<="))
  greater : Compares compare.Gt (Sign (codes ">"))
  at_least : Compares compare.Ge (Sign (codes ">="))

abbrev pub denied : Bool → Cond → Cond
denied true c = test.Not c
denied false c = c

pub data IsTest (IsValue : Expr → List Lexeme → Type 0) : Cond → List Lexeme → Type 0 where
  compares : {a b : Expr} {o : Op} {l : Lexeme} {ls ms : List Lexeme} → IsValue a ls → Compares o l → IsValue b ms → IsTest IsValue (test.Compare a o b) (ls ++ l ∷ ms)
  is_null : {a : Expr} {d : Bool} {l r : Lexeme} {ls ms : List Lexeme} → IsValue a ls → Keyword (codes "IS") l → Passed (codes "NOT") d ms → Keyword (codes "NULL") r
      → IsTest IsValue (denied d (test.IsNull a)) (ls ++ (l ∷ ms ++ r ∷ []))
  is_in : {a : Expr} {d : Bool} {vs : List Value} {l : Lexeme} {ls ms ns : List Lexeme} → IsValue a ls → Passed (codes "NOT") d ms → Keyword (codes "IN") l → IsTuple vs ns
      → IsTest IsValue (denied d (test.In a vs)) (ls ++ (ms ++ l ∷ ns))
  is_between : {a b c : Expr} {d : Bool} {l r : Lexeme} {ls ms ns os : List Lexeme} → IsValue a ls → Passed (codes "NOT") d ms → Keyword (codes "BETWEEN") l → IsValue b ns → Keyword (codes "AND") r → IsValue c os
      → IsTest IsValue (denied d (test.Between a b c)) (ls ++ (ms ++ (l ∷ ns ++ r ∷ os)))

-- one member by itself, and more as a list, with a word between each two
pub data Joined (w : Name) (all : List Cond → Cond) (Member : Cond → List Lexeme → Type 0) : Cond → List Lexeme → Type 0 where
  one : {c : Cond} {ls : List Lexeme} → Member c ls → Joined w all Member c ls
  more : {c d : Cond} {cs : List Cond} {ls : List Lexeme} → Separated (Keyword w) Member (c ∷ d ∷ cs) ls → Joined w all Member (all (c ∷ d ∷ cs)) ls

-- OR binds less than AND
abbrev pub AnyOf : (Cond → List Lexeme → Type 0) → Cond → List Lexeme → Type 0
AnyOf Member = Joined (codes "OR") test.Or (Joined (codes "AND") test.And Member)

-- NOT binds more than both
pub data MemberOf (Inner Brackets : Cond → List Lexeme → Type 0) (IsValue : Expr → List Lexeme → Type 0) : Cond → List Lexeme → Type 0 where
  negated : {c : Cond} {l : Lexeme} {ls : List Lexeme} → Keyword (codes "NOT") l → Inner c ls → MemberOf Inner Brackets IsValue (test.Not c) (l ∷ ls)
  brackets : {c : Cond} {ls : List Lexeme} → Brackets c ls → MemberOf Inner Brackets IsValue c ls
  tested : {c : Cond} {ls : List Lexeme} → IsTest IsValue c ls → MemberOf Inner Brackets IsValue c ls

abbrev pub Nothing : Cond → List Lexeme → Type 0
Nothing c ls = ⊥

-- a member of a condition in which at most n brackets, NOTs and calls are open at once
abbrev pub MemberAt : ℕ → Cond → List Lexeme → Type 0
MemberAt zero = MemberOf Nothing Nothing (ValueAt 0 false)
MemberAt (suc n) = MemberOf (MemberAt n) (Bracketed (AnyOf (MemberAt n))) (ValueAt (suc n) false)

pub data IsCondition : Cond → List Lexeme → Type 0 where
  condition : {c : Cond} {ls : List Lexeme} → AnyOf (MemberAt most_open) c ls → IsCondition c ls

-- ---- select

pub data IsName : Name → List Lexeme → Type 0 where
  name : {n : Name} {l : Lexeme} → Named n l → IsName n (l ∷ [])

pub data IsNumber : ℕ → List Lexeme → Type 0 where
  digits : {n : ℕ} → IsNumber n (Digits n ∷ [])

pub data IsAlias : Option Name → List Lexeme → Type 0 where
  behind_as : {n : Name} {l m : Lexeme} → Keyword (codes "AS") l → Named n m → IsAlias (Some n) (l ∷ m ∷ [])
  alone : {n : Name} {l : Lexeme} → Named n l → IsAlias (Some n) (l ∷ [])
  none : IsAlias None []

-- an item, whatever its span
pub data IsItem : Item → List Lexeme → Type 0 where
  item : {e : Expr} {n : Option Name} {from to : ℕ} {words : List ℕ} {ls ms : List Lexeme} → ValueAt most_open true e ls → IsAlias n ms
      → IsItem (record { value = e; name = n; from = from; to = to; words = words }) (ls ++ ms)

pub data IsItems : Bool × List Item → List Lexeme → Type 0 where
  star : {l : Lexeme} → Mark (codes "*") l → IsItems (true, []) (l ∷ [])
  items : {is : List Item} {ls : List Lexeme} → Listed IsItem is ls → IsItems (false, is) ls

pub data IsCacheWord : Head → List Lexeme → Type 0 where
  cache : {l : Lexeme} → Keyword (codes "SQL_CACHE") l → IsCacheWord head.Cache (l ∷ [])
  no_cache : {l : Lexeme} → Keyword (codes "SQL_NO_CACHE") l → IsCacheWord head.NoCache (l ∷ [])
  none : IsCacheWord head.Bare []

pub data IsSource : Source → List Lexeme → Type 0 where
  source : {t : TableRef} {n : Option Name} {ls ms : List Lexeme} → IsTable t ls → IsAlias n ms → IsSource (record { table = t; name = unwrap_or n t.name }) (ls ++ ms)

pub data IsFurther : Source × Option Cond → List Lexeme → Type 0 where
  comma : {s : Source} {l : Lexeme} {ls : List Lexeme} → Mark (codes ",") l → IsSource s ls → IsFurther (s, None) (l ∷ ls)
  join : {s : Source} {c : Cond} {inner : Bool} {l m : Lexeme} {ks ls ms : List Lexeme} → Passed (codes "INNER") inner ks → Keyword (codes "JOIN") l → IsSource s ls → Keyword (codes "ON") m → IsCondition c ms
      → IsFurther (s, Some c) (ks ++ (l ∷ ls ++ m ∷ ms))

-- sources behind the first, with the conditions of ON
pub data AreFurther : List Source → List Cond → List Lexeme → Type 0 where
  none : AreFurther [] [] []
  more : {f : Source × Option Cond} {ss : List Source} {cs : List Cond} {ls ms : List Lexeme} → IsFurther f ls → AreFurther ss cs ms → AreFurther (f.0 ∷ ss) (option_to_list f.1 ++ cs) (ls ++ ms)

pub data IsWhere : Option Cond → List Lexeme → Type 0 where
  where_holds : {c : Cond} {l : Lexeme} {ls : List Lexeme} → Keyword (codes "WHERE") l → IsCondition c ls → IsWhere (Some c) (l ∷ ls)
  none : IsWhere None []

pub data IsDirection : Bool → List Lexeme → Type 0 where
  down : {l : Lexeme} → Keyword (codes "DESC") l → IsDirection true (l ∷ [])
  up : {l : Lexeme} → Keyword (codes "ASC") l → IsDirection false (l ∷ [])
  none : IsDirection false []

pub data IsOrder : Order → List Lexeme → Type 0 where
  order : {c : ColumnName} {down : Bool} {ls ms : List Lexeme} → IsColumn c ls → IsDirection down ms → IsOrder (record { column = c; desc = down }) (ls ++ ms)

pub data AreOrders : List Order → List Lexeme → Type 0 where
  order_by : {os : List Order} {l m : Lexeme} {ls : List Lexeme} → Keyword (codes "ORDER") l → Keyword (codes "BY") m → Listed IsOrder os ls → AreOrders os (l ∷ m ∷ ls)
  none : AreOrders [] []

-- at most eight sources
pub data IsFrom : Behind → List Lexeme → Type 0 where
  from : {s : Source} {ss : List Source} {cs : List Cond} {c : Option Cond} {os : List Order} {l : Lexeme} {ls ms ns ps : List Lexeme}
      → Keyword (codes "FROM") l → IsSource s ls → AreFurther ss cs ms → length ss ≤ 7 → IsWhere c ns → AreOrders os ps
      → IsFrom (record { sources = s ∷ ss; cond = all_conds (cs ++ option_to_list c); order = os }) (l ∷ ls ++ (ms ++ (ns ++ ps)))
  none : IsFrom no_from []

pub data IsLimit : Option Limit → List Lexeme → Type 0 where
  limit : {n : ℕ} {l : Lexeme} → Keyword (codes "LIMIT") l → IsLimit (Some (record { offset = 0; count = n })) (l ∷ Digits n ∷ [])
  skip_and_limit : {n skipped : ℕ} {l m : Lexeme} → Keyword (codes "LIMIT") l → Mark (codes ",") m → IsLimit (Some (record { offset = skipped; count = n })) (l ∷ Digits skipped ∷ m ∷ Digits n ∷ [])
  limit_and_offset : {n skipped : ℕ} {l m : Lexeme} → Keyword (codes "LIMIT") l → Keyword (codes "OFFSET") m → IsLimit (Some (record { offset = skipped; count = n })) (l ∷ Digits n ∷ m ∷ Digits skipped ∷ [])
  none : IsLimit None []

pub data IsLock : Bool → List Lexeme → Type 0 where
  for_update : {l m : Lexeme} → Keyword (codes "FOR") l → Keyword (codes "UPDATE") m → IsLock true (l ∷ m ∷ [])
  in_share_mode : {l m n o : Lexeme} → Keyword (codes "LOCK") l → Keyword (codes "IN") m → Keyword (codes "SHARE") n → Keyword (codes "MODE") o → IsLock true (l ∷ m ∷ n ∷ o ∷ [])
  none : IsLock false []

-- ---- the other statements

pub data AreNames : Option (List Name) → List Lexeme → Type 0 where
  names : {ns : List Name} {ls : List Lexeme} → Bracketed (Listed IsName) ns ls → AreNames (Some ns) ls
  none : AreNames None []

pub data IsRight : Right → List Lexeme → Type 0 where
  column : {n : Name} {l : Lexeme} → Named n l → IsRight (right.Column n) (l ∷ [])
  literal : {v : Value} {ls : List Lexeme} → IsLiteral v ls → IsRight (right.Literal v) ls

pub data IsAssignment : Assignment → List Lexeme → Type 0 where
  assignment : {n : Name} {r : Right} {l m : Lexeme} {ls : List Lexeme} → Named n l → Mark (codes "=") m → IsRight r ls → IsAssignment (record { name = n; right = r }) (l ∷ m ∷ ls)

pub data IsKind : PartKind → List Lexeme → Type 0 where
  big_int : {l : Lexeme} → Keyword (codes "BIGINT") l → IsKind typed.BigInt (l ∷ [])
  var_char : {n : ℕ} {l : Lexeme} {ls : List Lexeme} → Keyword (codes "VARCHAR") l → Bracketed IsNumber n ls → IsKind (typed.VarChar n) (l ∷ ls)

pub data IsNull : Bool → List Lexeme → Type 0 where
  not_null : {l m : Lexeme} → Keyword (codes "NOT") l → Keyword (codes "NULL") m → IsNull true (l ∷ m ∷ [])
  null : {l : Lexeme} → Keyword (codes "NULL") l → IsNull false (l ∷ [])
  none : IsNull false []

pub data IsKey : Bool → List Lexeme → Type 0 where
  primary_key : {l m : Lexeme} → Keyword (codes "PRIMARY") l → Keyword (codes "KEY") m → IsKey true (l ∷ m ∷ [])
  none : IsKey false []

pub data IsPart : Part → List Lexeme → Type 0 where
  column : {n : Name} {k : PartKind} {required key : Bool} {l : Lexeme} {ks ls ms : List Lexeme} → Named n l → IsKind k ks → IsNull required ls → IsKey key ms → IsPart (piece.Column n k required key) (l ∷ ks ++ (ls ++ ms))
  primary : {n : Name} {l m : Lexeme} {ls : List Lexeme} → Keyword (codes "PRIMARY") l → Keyword (codes "KEY") m → Bracketed IsName n ls → IsPart (piece.Primary n) (l ∷ m ∷ ls)

pub data IsSetValue : SetValue → List Lexeme → Type 0 where
  number : {n : ℕ} → IsSetValue (to.Number n) (Digits n ∷ [])
  text : {t : List ℕ} → IsSetValue (to.Str t) (Words t ∷ [])
  default : {l : Lexeme} → Keyword (codes "DEFAULT") l → IsSetValue to.Default (l ∷ [])
  word : {w : Name} → same_word (codes "DEFAULT") w ≡ false → IsSetValue (to.Word w) (Word w ∷ [])

pub data IsSetting : Setting → List Lexeme → Type 0 where
  variable : {n : Name} {v : SetValue} {m : Lexeme} {ls : List Lexeme} → Mark (codes "=") m → IsSetValue v ls → IsSetting (setting.Variable n v) (Word n ∷ m ∷ ls)
  session_variable : {n : Name} {v : SetValue} {l m : Lexeme} {ls : List Lexeme} → Keyword (codes "SESSION") l → Mark (codes "=") m → IsSetValue v ls → IsSetting (setting.Variable n v) (l ∷ Word n ∷ m ∷ ls)
  names : {n : Name} {l : Lexeme} → Keyword (codes "NAMES") l → IsSetting (setting.Names n) (l ∷ Word n ∷ [])

pub data IsStatement : Statement → List Lexeme → Type 0 where
  select : {c : Head} {i : Bool × List Item} {f : Behind} {x : Option Limit} {lock : Bool} {l : Lexeme} {ks ls ms ns os : List Lexeme}
      → Keyword (codes "SELECT") l → IsCacheWord c ks → IsItems i ls → IsFrom f ms → IsLimit x ns → IsLock lock os
      → IsStatement (statement.Select (record { cache = c; star = i.0; items = i.1; from = f.sources; cond = f.cond; order = f.order; limit = x; lock = lock })) (l ∷ ks ++ (ls ++ (ms ++ (ns ++ os))))
  insert : {t : TableRef} {names : Option (List Name)} {rows : List (List Value)} {l m v : Lexeme} {ls ms ns : List Lexeme}
      → Keyword (codes "INSERT") l → Keyword (codes "INTO") m → IsTable t ls → AreNames names ms → Keyword (codes "VALUES") v → Listed IsTuple rows ns
      → IsStatement (statement.Insert (record { table = t; names = names; rows = rows })) (l ∷ m ∷ ls ++ (ms ++ (v ∷ ns)))
  update : {t : TableRef} {sets : List Assignment} {c : Option Cond} {l m : Lexeme} {ls ms ns : List Lexeme}
      → Keyword (codes "UPDATE") l → IsTable t ls → Keyword (codes "SET") m → Listed IsAssignment sets ms → IsWhere c ns
      → IsStatement (statement.Update (record { table = t; sets = sets; cond = c })) (l ∷ ls ++ (m ∷ ms ++ ns))
  delete : {t : TableRef} {c : Option Cond} {l m : Lexeme} {ls ns : List Lexeme} → Keyword (codes "DELETE") l → Keyword (codes "FROM") m → IsTable t ls → IsWhere c ns
      → IsStatement (statement.Delete (record { table = t; cond = c })) (l ∷ m ∷ ls ++ ns)
  truncate : {t : TableRef} {said : Bool} {l : Lexeme} {ks ls : List Lexeme} → Keyword (codes "TRUNCATE") l → Passed (codes "TABLE") said ks → IsTable t ls → IsStatement (statement.Truncate t) (l ∷ ks ++ ls)
  create_table : {t : TableRef} {ps : List Part} {l m : Lexeme} {ls ms : List Lexeme} → Keyword (codes "CREATE") l → Keyword (codes "TABLE") m → IsTable t ls → Bracketed (Listed IsPart) ps ms
      → IsStatement (statement.CreateTable t ps) (l ∷ m ∷ ls ++ ms)
  drop_table : {t : TableRef} {l m : Lexeme} {ls : List Lexeme} → Keyword (codes "DROP") l → Keyword (codes "TABLE") m → IsTable t ls → IsStatement (statement.DropTable t) (l ∷ m ∷ ls)
  create_database : {n : Name} {l m o : Lexeme} → Keyword (codes "CREATE") l → Keyword (codes "DATABASE") m → Named n o → IsStatement (statement.CreateDb n) (l ∷ m ∷ o ∷ [])
  drop_database : {n : Name} {l m o : Lexeme} → Keyword (codes "DROP") l → Keyword (codes "DATABASE") m → Named n o → IsStatement (statement.DropDb n) (l ∷ m ∷ o ∷ [])
  use_database : {n : Name} {l o : Lexeme} → Keyword (codes "USE") l → Named n o → IsStatement (statement.UseDb n) (l ∷ o ∷ [])
  begin : {l : Lexeme} → Keyword (codes "BEGIN") l → IsStatement statement.Begin (l ∷ [])
  start_transaction : {l m : Lexeme} → Keyword (codes "START") l → Keyword (codes "TRANSACTION") m → IsStatement statement.Begin (l ∷ m ∷ [])
  commit : {l : Lexeme} → Keyword (codes "COMMIT") l → IsStatement statement.Commit (l ∷ [])
  rollback : {l : Lexeme} → Keyword (codes "ROLLBACK") l → IsStatement statement.Rollback (l ∷ [])
  set : {s : Setting} {l : Lexeme} {ls : List Lexeme} → Keyword (codes "SET") l → IsSetting s ls → IsStatement (statement.Set s) (l ∷ ls)
  show_status : {said : Bool} {l m n : Lexeme} {ks : List Lexeme} → Keyword (codes "SHOW") l → Passed (codes "GLOBAL") said ks → Keyword (codes "STATUS") m → Keyword (codes "LIKE") n
      → IsStatement statement.ShowStatus (l ∷ ks ++ (m ∷ n ∷ Words (codes "Qcache%") ∷ []))
  flush_tables : {l m : Lexeme} → Keyword (codes "FLUSH") l → Keyword (codes "TABLES") m → IsStatement statement.FlushTables (l ∷ m ∷ [])
  flush_cache : {l m n : Lexeme} → Keyword (codes "FLUSH") l → Keyword (codes "QUERY") m → Keyword (codes "CACHE") n → IsStatement statement.FlushCache (l ∷ m ∷ n ∷ [])
  reset_cache : {l m n : Lexeme} → Keyword (codes "RESET") l → Keyword (codes "QUERY") m → Keyword (codes "CACHE") n → IsStatement statement.ResetCache (l ∷ m ∷ n ∷ [])
