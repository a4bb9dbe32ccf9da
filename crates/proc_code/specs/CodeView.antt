-- Code as data.
use Rattle.proc_code.specs.declared.code.Code.{Code}
use Rattle.proc_code.specs.Translation.{FlatCode}

abbrev pub code_view : Code → FlatCode
code_view code = record {
  instructions = code.instructions.items;
  sites = code.sites.items;
  deepest = code.deepest;
  nesting = code.nesting;
}
