mod Grammar
