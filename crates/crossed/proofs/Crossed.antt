-- What the definitions give for pictures that the Rust has run, or tests/rust's plain check where a block leads to block 0
-- (request 2026-02): the same answers, lines and whole pictures, by computation, page by page. Printed with the pages by
-- `compare crossed` in tests/rust. Assumes nothing.
use mathlib.Core.Path.{◌≡◌, refl}
use mathlib.Core.List.{map}
use Rattle.model.specs.Pass.{Outcome, sink}
use Rattle.crossed.specs.Row.{Row}
use Rattle.crossed.specs.Rows1.{rows1}
use Rattle.crossed.specs.Rows2.{rows2}
use Rattle.crossed.specs.Rows3.{rows3}
use Rattle.crossed.specs.Rows4.{rows4}
use Rattle.crossed.specs.Rows5.{rows5}
use Rattle.crossed.specs.Rows6.{rows6}
use Rattle.crossed.specs.Rows7.{rows7}
use Rattle.crossed.specs.Rows8.{rows8}
use Rattle.crossed.specs.Rows9.{rows9}
use Rattle.crossed.specs.Rows10.{rows10}
use Rattle.crossed.specs.Rows11.{rows11}
use Rattle.crossed.specs.Rows12.{rows12}
use Rattle.crossed.specs.Rows13.{rows13}

abbrev answered : Row → Outcome
answered w = sink w.what w.w64 w.w32 w.nf

pub page1 : map answered rows1 ≡ map (λ w. w.gives) rows1
page1 = refl

pub page2 : map answered rows2 ≡ map (λ w. w.gives) rows2
page2 = refl

pub page3 : map answered rows3 ≡ map (λ w. w.gives) rows3
page3 = refl

pub page4 : map answered rows4 ≡ map (λ w. w.gives) rows4
page4 = refl

pub page5 : map answered rows5 ≡ map (λ w. w.gives) rows5
page5 = refl

pub page6 : map answered rows6 ≡ map (λ w. w.gives) rows6
page6 = refl

pub page7 : map answered rows7 ≡ map (λ w. w.gives) rows7
page7 = refl

pub page8 : map answered rows8 ≡ map (λ w. w.gives) rows8
page8 = refl

pub page9 : map answered rows9 ≡ map (λ w. w.gives) rows9
page9 = refl

pub page10 : map answered rows10 ≡ map (λ w. w.gives) rows10
page10 = refl

pub page11 : map answered rows11 ≡ map (λ w. w.gives) rows11
page11 = refl

pub page12 : map answered rows12 ≡ map (λ w. w.gives) rows12
page12 = refl

pub page13 : map answered rows13 ≡ map (λ w. w.gives) rows13
page13 = refl
