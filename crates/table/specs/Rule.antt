-- The rules that a well-formed line has to keep, each as the place of its earliest breach, from 0 in the line, or none. They are
-- numbered 4 to 9, and `Judged` has their order.
use Rattle.std.specs.Prelude.{ℕ, ◌+◌, ◌-◌, Bool, true, cond, ◌&&◌, List, [], ◌∷◌, Some, None, Option, ◌==◌, bit_and, bit_or, nat_le, nat_lt}
use Rattle.std.specs.Option.{unwrap_or}
use Rattle.table.specs.declared.line.Numeral.{Numeral}
use Rattle.table.specs.declared.line.Item.{Item}
use Rattle.table.specs.declared.line.Item.TheVariants.{Open, Named, Close}
use Rattle.table.specs.declared.head.Head.{Head}
use Rattle.table.specs.Limits.{deepest}
use Rattle.table.specs.Nest.{top, outer, renewed}
use Rattle.table.specs.Number.{ticks_of}

-- the first of two places, in the order of reading
abbrev pub or_else : Option ℕ → Option ℕ → Option ℕ
or_else None b = b
or_else (Some p) b = Some p

-- 4: a number is out of its range, or has a leading zero
abbrev pub unreadable : Numeral → Option ℕ
unreadable n = elim n.value [ None ↦ Some n.place | Some v ↦ None ]

abbrev pub head_fault : Head → Option ℕ
head_fault h = or_else (unreadable h.deadline) (or_else (unreadable h.period) (unreadable h.cost))

abbrev pub item_fault : Item → Option ℕ
item_fault (Open n) = unreadable n
item_fault (Named l) = None
item_fault Close = None

abbrev pub number_fault : List Item → Option ℕ
number_fault [] = None
number_fault (i ∷ is) = or_else (item_fault i) (number_fault is)

-- 5: C ≤ D ≤ T does not hold
abbrev pub times_fault : Head → Option ℕ
times_fault h = cond (nat_le (ticks_of h.cost) (ticks_of h.deadline) && nat_le (ticks_of h.deadline) (ticks_of h.period)) None (Some 0)

-- 6: there is no room for one more task than so many
abbrev pub tasks_fault : ℕ → ℕ → Option ℕ
tasks_fault room before = cond (nat_lt before room) None (Some 0)

-- 7: a section finds no room after so many sections, or stands inside eight others
abbrev pub section_fault : ℕ → ℕ → ℕ → List Item → Option ℕ
section_fault room before depth [] = None
section_fault room before depth (Open n ∷ is) = cond (nat_lt before room && nat_lt depth deepest) (section_fault room (before + 1) (depth + 1) is) (Some n.place)
section_fault room before depth (Named l ∷ is) = section_fault room before depth is
section_fault room before depth (Close ∷ is) = section_fault room before (depth - 1) is

-- the resources that a section and those around it have named so far; a section that opens begins with those around it
abbrev pub named : List ℕ → ℕ
named seen = unwrap_or (top seen) 0

-- 8: a section names a resource again that it or one around it names, in either case
abbrev pub repeat_fault : List ℕ → List Item → Option ℕ
repeat_fault seen [] = None
repeat_fault seen (Open n ∷ is) = repeat_fault (named seen ∷ seen) is
repeat_fault seen (Named l ∷ is) = cond (bit_and (named seen) l.bit == 0) (repeat_fault (renewed (bit_or (named seen) l.bit) seen) is) (Some l.place)
repeat_fault seen (Close ∷ is) = repeat_fault (outer seen) is

-- 9: a section is longer than the one around it, or than C if there is none
abbrev pub length_fault : ℕ → List ℕ → List Item → Option ℕ
length_fault cost lengths [] = None
length_fault cost lengths (Open n ∷ is) = cond (nat_le (ticks_of n) (unwrap_or (top lengths) cost)) (length_fault cost (ticks_of n ∷ lengths) is) (Some n.place)
length_fault cost lengths (Named l ∷ is) = length_fault cost lengths is
length_fault cost lengths (Close ∷ is) = length_fault cost (outer lengths) is

-- how many sections open
abbrev pub opens : List Item → ℕ
opens [] = 0
opens (Open n ∷ is) = 1 + opens is
opens (Named l ∷ is) = opens is
opens (Close ∷ is) = opens is

-- nesting goes no deeper than eight, from so many open sections on
abbrev pub shallow : ℕ → List Item → Bool
shallow depth [] = true
shallow depth (Open n ∷ is) = nat_lt depth deepest && shallow (depth + 1) is
shallow depth (Named l ∷ is) = shallow depth is
shallow depth (Close ∷ is) = shallow (depth - 1) is
