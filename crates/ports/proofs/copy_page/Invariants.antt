use Rattle.std.proofs.Common.{◌≡◌, drop}
use Rattle.model.specs.Ports.{dma_unit, dma_oam}
use Rattle.ports.proofs.copy_page.Given as goal

-- what is left of the page, from here, gives what the whole gives from the start
abbrev pub invariant-loop-byte : goal.invariant-loop-byte
invariant-loop-byte l = record {
  unit : dma_unit (drop l.byte-index l.page) l.n ≡ dma_unit l.page l.fn.u;
  oam : dma_oam (drop l.byte-index l.page) l.n l.oam ≡ dma_oam l.page l.fn.u l.initial.oam;
}
