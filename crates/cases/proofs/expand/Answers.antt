-- `cases::expand` meets its contract: the law of its letter. Assumes nothing.
use mathlib.Core.Path.{◌≡◌}
use lib.ListN.{length, get_or}
use Rattle.std.proofs.Common.{rules}
use Rattle.cases.proofs.Forms.{of_hex, of_lcg, of_fill, of_valid, of_none}
use Rattle.cases.proofs.Laws.{kept_byte}
use Rattle.cases.proofs.Laying.{the_bytes, all_there, none_yet}
use Rattle.cases.proofs.expand.Goals as goal

pub returns-in-104 : goal.returns-in-104
returns-in-104 c =
    let a = c.args in
    let letter : c.unwrap_or.result ≡ get_or a.s.now a.from 0 = search rules in
    the_bytes c.hex.ensures (of_hex a.s.now a.from (length a.out.now) letter c.after-first.ensures.3 c.in-104.is)

pub returns-in-108 : goal.returns-in-108
returns-in-108 c =
    let a = c.args in
    let letter : c.unwrap_or.result ≡ get_or a.s.now a.from 0 = search rules in
    the_bytes c.lcg.ensures
    (of_lcg a.s.now a.from (length a.out.now) letter c.after-first.ensures.3 c.count.ensures.0 c.number.ensures.0 c.in-108.is)

pub returns-in-102 : goal.returns-in-102
returns-in-102 c =
    let a = c.args in
    let letter : c.unwrap_or.result ≡ get_or a.s.now a.from 0 = search rules in
    the_bytes c.fill.ensures
    (of_fill a.s.now a.from (length a.out.now) letter c.after-first.ensures.3 c.count-in-102.ensures.0
    (kept_byte c.pair.result c.pair.ensures.value c.unwrap_or-in-102.ensures c.unwrap_or-in-102.type_inv)
    (kept_byte c.pair-in-102.result c.pair-in-102.ensures.value c.unwrap_or-in-102-2.ensures c.unwrap_or-in-102-2.type_inv) c.in-102.is)

pub returns-in-118 : goal.returns-in-118
returns-in-118 c =
    let a = c.args in
    let letter : c.unwrap_or.result ≡ get_or a.s.now a.from 0 = search rules in
    the_bytes c.valid.ensures
    (of_valid a.s.now a.from (length a.out.now) letter c.after-first.ensures.3 c.count-in-118.ensures.0
    c.number-in-118.ensures.0 c.in-118.is)

pub returns-in_default : goal.returns-in_default
returns-in_default c =
    let a = c.args in
    let letter : c.unwrap_or.result ≡ get_or a.s.now a.from 0 = search rules in
    the_bytes (all_there (none_yet a.out.now _))
    (of_none a.s.now a.from (length a.out.now) letter (search rules) (search rules) (search rules) (search rules))
