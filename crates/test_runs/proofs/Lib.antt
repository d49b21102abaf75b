mod BookRows
