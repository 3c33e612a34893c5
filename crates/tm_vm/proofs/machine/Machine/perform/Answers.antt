use Rattle.tm_vm.proofs.Performed.{gone_ahead, loads, needed, opened, silent, wrote}
use Rattle.tm_vm.proofs.machine.Machine.perform.Goals as goal

pub returns-in-Add : goal.returns-in-Add
returns-in-Add g c = rw c.in-Add.is (gone_ahead c.do_sum.result c.do_sum.ensures)

pub returns-in-ApplyFilter : goal.returns-in-ApplyFilter
returns-in-ApplyFilter g c = rw c.in-ApplyFilter.is (needed c.do_apply_filter.result c.do_apply_filter.ensures)

pub returns-in-BeginCapture : goal.returns-in-BeginCapture
returns-in-BeginCapture g c = rw c.in-BeginCapture.is (silent c.do_begin_capture.result c.do_begin_capture.ensures)

pub returns-in-BuildKwargs : goal.returns-in-BuildKwargs
returns-in-BuildKwargs g c = rw c.in-BuildKwargs.is (silent c.do_build_kwargs.result c.do_build_kwargs.ensures)

pub returns-in-BuildList : goal.returns-in-BuildList
returns-in-BuildList g c = rw c.in-BuildList.is (silent c.do_build_list.result c.do_build_list.ensures)

pub returns-in-BuildMacro : goal.returns-in-BuildMacro
returns-in-BuildMacro g c =
    let p = g.H.Host.program c.args.host.now in
    rw c.in-BuildMacro.is (silent c.do_build_macro.result (c.do_build_macro.ensures p c.requires.its_code))

pub returns-in-BuildMap : goal.returns-in-BuildMap
returns-in-BuildMap g c = rw c.in-BuildMap.is (silent c.do_build_map.result c.do_build_map.ensures)

pub returns-in-BuildTuple : goal.returns-in-BuildTuple
returns-in-BuildTuple g c = rw c.in-BuildTuple.is (silent c.do_build_list-in-BuildTuple.result c.do_build_list-in-BuildTuple.ensures)

pub returns-in-CallBlock : goal.returns-in-CallBlock
returns-in-CallBlock g c = rw c.in-CallBlock.is (needed c.do_call_block.result c.do_call_block.ensures)

pub returns-in-CallFunction : goal.returns-in-CallFunction
returns-in-CallFunction g c = rw c.in-CallFunction.is (needed c.do_call_function.result c.do_call_function.ensures)

pub returns-in-CallMethod : goal.returns-in-CallMethod
returns-in-CallMethod g c = rw c.in-CallMethod.is (needed c.do_apply.result c.do_apply.ensures)

pub returns-in-CallObject : goal.returns-in-CallObject
returns-in-CallObject g c = rw c.in-CallObject.is (needed c.do_call_object.result c.do_call_object.ensures)

pub returns-in-CompareAndPreserve : goal.returns-in-CompareAndPreserve
returns-in-CompareAndPreserve g c = rw c.in-CompareAndPreserve.is (silent c.do_compare_and_preserve.result c.do_compare_and_preserve.ensures)

pub returns-in-DiscardTop : goal.returns-in-DiscardTop
returns-in-DiscardTop g c = rw c.in-DiscardTop.is (silent c.do_discard_top.result c.do_discard_top.ensures)

pub returns-in-Div : goal.returns-in-Div
returns-in-Div g c = rw c.in-Div.is (silent c.do_binary-in-Div.result c.do_binary-in-Div.ensures)

pub returns-in-DupTop : goal.returns-in-DupTop
returns-in-DupTop g c = rw c.in-DupTop.is (silent c.do_dup_top.result c.do_dup_top.ensures)

pub returns-in-Emit : goal.returns-in-Emit
returns-in-Emit g c = rw c.in-Emit.is (wrote c.do_emit.result c.do_emit.ensures)

pub returns-in-EmitRaw : goal.returns-in-EmitRaw
returns-in-EmitRaw g c = rw c.in-EmitRaw.is (wrote c.do_emit_raw.result c.do_emit_raw.ensures)

pub returns-in-Enclose : goal.returns-in-Enclose
returns-in-Enclose g c = rw c.in-Enclose.is (silent c.do_enclose.result c.do_enclose.ensures)

pub returns-in-EndCapture : goal.returns-in-EndCapture
returns-in-EndCapture g c = rw c.in-EndCapture.is (silent c.do_end_capture.result c.do_end_capture.ensures)

pub returns-in-Eq : goal.returns-in-Eq
returns-in-Eq g c = rw c.in-Eq.is (silent c.do_binary.result c.do_binary.ensures)

pub returns-in-FastRecurse : goal.returns-in-FastRecurse
returns-in-FastRecurse g c = rw c.in-FastRecurse.is (opened c.do_fast_recurse.result c.do_fast_recurse.ensures)

pub returns-in-FastSuper : goal.returns-in-FastSuper
returns-in-FastSuper g c = rw c.in-FastSuper.is (needed c.do_fast_super.result c.do_fast_super.ensures)

pub returns-in-GetAttr : goal.returns-in-GetAttr
returns-in-GetAttr g c = rw c.in-GetAttr.is (silent c.do_get_attr.result c.do_get_attr.ensures)

pub returns-in-GetClosure : goal.returns-in-GetClosure
returns-in-GetClosure g c = rw c.in-GetClosure.is (silent c.do_get_closure.result c.do_get_closure.ensures)

pub returns-in-GetItem : goal.returns-in-GetItem
returns-in-GetItem g c = rw c.in-GetItem.is (silent c.do_get_item.result c.do_get_item.ensures)

pub returns-in-Gt : goal.returns-in-Gt
returns-in-Gt g c = rw c.in-Gt.is (silent c.do_binary-in-Gt.result c.do_binary-in-Gt.ensures)

pub returns-in-Gte : goal.returns-in-Gte
returns-in-Gte g c = rw c.in-Gte.is (silent c.do_binary-in-Gte.result c.do_binary-in-Gte.ensures)

pub returns-in-In : goal.returns-in-In
returns-in-In g c = rw c.in-In.is (silent c.do_binary-in-In.result c.do_binary-in-In.ensures)

pub returns-in-IntDiv : goal.returns-in-IntDiv
returns-in-IntDiv g c = rw c.in-IntDiv.is (silent c.do_binary-in-IntDiv.result c.do_binary-in-IntDiv.ensures)

pub returns-in-IsUndefined : goal.returns-in-IsUndefined
returns-in-IsUndefined g c = rw c.in-IsUndefined.is (silent c.do_is_undefined.result c.do_is_undefined.ensures)

pub returns-in-Iterate : goal.returns-in-Iterate
returns-in-Iterate g c = rw c.in-Iterate.is (silent c.do_iterate.result c.do_iterate.ensures)

pub returns-in-Jump : goal.returns-in-Jump
returns-in-Jump g c = rw c.in-Jump.is (silent c.do_jump.result c.do_jump.ensures)

pub returns-in-JumpIfFalse : goal.returns-in-JumpIfFalse
returns-in-JumpIfFalse g c = rw c.in-JumpIfFalse.is (silent c.do_jump_if_false.result c.do_jump_if_false.ensures)

pub returns-in-JumpIfFalseOrPop : goal.returns-in-JumpIfFalseOrPop
returns-in-JumpIfFalseOrPop g c = rw c.in-JumpIfFalseOrPop.is (silent c.jump_or_pop.result c.jump_or_pop.ensures)

pub returns-in-JumpIfTrueOrPop : goal.returns-in-JumpIfTrueOrPop
returns-in-JumpIfTrueOrPop g c = rw c.in-JumpIfTrueOrPop.is (silent c.jump_or_pop-in-JumpIfTrueOrPop.result c.jump_or_pop-in-JumpIfTrueOrPop.ensures)

pub returns-in-LoadBlocks : goal.returns-in-LoadBlocks
returns-in-LoadBlocks g c = rw c.in-LoadBlocks.is (loads c.do_load_blocks.result c.do_load_blocks.ensures)

pub returns-in-LoadConst : goal.returns-in-LoadConst
returns-in-LoadConst g c = rw c.in-LoadConst.is (silent c.do_load_const.result c.do_load_const.ensures)

pub returns-in-Lookup : goal.returns-in-Lookup
returns-in-Lookup g c = rw c.in-Lookup.is (silent c.do_lookup.result c.do_lookup.ensures)

pub returns-in-Lt : goal.returns-in-Lt
returns-in-Lt g c = rw c.in-Lt.is (silent c.do_binary-in-Lt.result c.do_binary-in-Lt.ensures)

pub returns-in-Lte : goal.returns-in-Lte
returns-in-Lte g c = rw c.in-Lte.is (silent c.do_binary-in-Lte.result c.do_binary-in-Lte.ensures)

pub returns-in-MergeKwargs : goal.returns-in-MergeKwargs
returns-in-MergeKwargs g c = rw c.in-MergeKwargs.is (silent c.do_merge_kwargs.result c.do_merge_kwargs.ensures)

pub returns-in-Mul : goal.returns-in-Mul
returns-in-Mul g c = rw c.in-Mul.is (silent c.do_binary-in-Mul.result c.do_binary-in-Mul.ensures)

pub returns-in-Ne : goal.returns-in-Ne
returns-in-Ne g c = rw c.in-Ne.is (silent c.do_binary-in-Ne.result c.do_binary-in-Ne.ensures)

pub returns-in-Neg : goal.returns-in-Neg
returns-in-Neg g c = rw c.in-Neg.is (silent c.do_unary.result c.do_unary.ensures)

pub returns-in-Not : goal.returns-in-Not
returns-in-Not g c = rw c.in-Not.is (silent c.do_unary-in-Not.result c.do_unary-in-Not.ensures)

pub returns-in-PerformTest : goal.returns-in-PerformTest
returns-in-PerformTest g c = rw c.in-PerformTest.is (needed c.do_perform_test.result c.do_perform_test.ensures)

pub returns-in-PopAutoEscape : goal.returns-in-PopAutoEscape
returns-in-PopAutoEscape g c = rw c.in-PopAutoEscape.is (silent c.do_pop_auto_escape.result c.do_pop_auto_escape.ensures)

pub returns-in-Pow : goal.returns-in-Pow
returns-in-Pow g c = rw c.in-Pow.is (silent c.do_binary-in-Pow.result c.do_binary-in-Pow.ensures)

pub returns-in-PushAutoEscape : goal.returns-in-PushAutoEscape
returns-in-PushAutoEscape g c = rw c.in-PushAutoEscape.is (silent c.do_push_auto_escape.result c.do_push_auto_escape.ensures)

pub returns-in-PushDidNotIterate : goal.returns-in-PushDidNotIterate
returns-in-PushDidNotIterate g c = rw c.in-PushDidNotIterate.is (silent c.do_push_did_not_iterate.result c.do_push_did_not_iterate.ensures)

pub returns-in-PushLoop : goal.returns-in-PushLoop
returns-in-PushLoop g c = rw c.in-PushLoop.is (opened c.do_push_loop.result c.do_push_loop.ensures)

pub returns-in-PushWith : goal.returns-in-PushWith
returns-in-PushWith g c = rw c.in-PushWith.is (opened c.do_push_with.result c.do_push_with.ensures)

pub returns-in-Rem : goal.returns-in-Rem
returns-in-Rem g c = rw c.in-Rem.is (silent c.do_binary-in-Rem.result c.do_binary-in-Rem.ensures)

pub returns-in-SetAttr : goal.returns-in-SetAttr
returns-in-SetAttr g c = rw c.in-SetAttr.is (silent c.do_set_attr.result c.do_set_attr.ensures)

pub returns-in-Slice : goal.returns-in-Slice
returns-in-Slice g c = rw c.in-Slice.is (silent c.do_slice.result c.do_slice.ensures)

pub returns-in-StoreLocal : goal.returns-in-StoreLocal
returns-in-StoreLocal g c = rw c.in-StoreLocal.is (silent c.do_store_local.result c.do_store_local.ensures)

pub returns-in-StringConcat : goal.returns-in-StringConcat
returns-in-StringConcat g c = rw c.in-StringConcat.is (gone_ahead c.do_sum-in-StringConcat.result c.do_sum-in-StringConcat.ensures)

pub returns-in-Sub : goal.returns-in-Sub
returns-in-Sub g c = rw c.in-Sub.is (silent c.do_binary-in-Sub.result c.do_binary-in-Sub.ensures)

pub returns-in-Swap : goal.returns-in-Swap
returns-in-Swap g c = rw c.in-Swap.is (silent c.do_swap.result c.do_swap.ensures)

pub returns-in-UnpackList : goal.returns-in-UnpackList
returns-in-UnpackList g c = rw c.in-UnpackList.is (silent c.do_unpack_list.result c.do_unpack_list.ensures)

pub returns-in-UnpackLists : goal.returns-in-UnpackLists
returns-in-UnpackLists g c = rw c.in-UnpackLists.is (silent c.do_unpack_lists.result c.do_unpack_lists.ensures)

pub returns-in-Include : goal.returns-in-Include
returns-in-Include g c = rw c.in-Include.is (needed c.do_include.result c.do_include.ensures)

pub returns-in-IncludeModule : goal.returns-in-IncludeModule
returns-in-IncludeModule g c = rw c.in-IncludeModule.is (needed c.do_include-in-IncludeModule.result c.do_include-in-IncludeModule.ensures)

pub returns-in-ExportLocals : goal.returns-in-ExportLocals
returns-in-ExportLocals g c = rw c.in-ExportLocals.is (silent c.do_export_locals.result c.do_export_locals.ensures)
