-- The two pages, and the shapes of the words that stay in one.
use Rattle.std.specs.Prelude.{ℕ}
use Rattle.machine.specs.Shape.{Shape, go, branch, defer, source_of}
use Rattle.control.specs.declared.Page.{Page}
use Rattle.control.specs.declared.Page.TheVariants.{Long, Short}
use Rattle.control.specs.declared.Paged.{Paged}

-- a page's addresses
abbrev pub page_size : Page → ℕ
page_size Long = 256
page_size Short = 32

-- NZT
abbrev pub branch_shape : Paged → Shape
branch_shape w = go (source_of w.s 0 0 w.l) (branch (page_size w.page) w.i)

-- XEC
abbrev pub defer_shape : Paged → Shape
defer_shape w = go (source_of w.s 0 0 w.l) (defer (page_size w.page) w.i)
